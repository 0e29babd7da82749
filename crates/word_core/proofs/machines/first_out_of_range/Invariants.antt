use Rattle.std.proofs.Common.{ℕ, ◌<◌, [], map, length, slice_index_or}
use Rattle.std.specs.List.{All}
use Rattle.word_core.specs.Machine.{IsLine}
use Rattle.word_core.proofs.machines.first_out_of_range.Given as goal

abbrev pub invariant-loop-state : goal.invariant-loop-state
invariant-loop-state l =
    (k : ℕ) → k < l.state → All (IsLine l.own l.others (length l.states)) (slice_index_or (map (λ v. v.items) l.states) k [])
