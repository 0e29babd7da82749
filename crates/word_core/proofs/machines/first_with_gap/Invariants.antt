use Rattle.std.proofs.Common.{ℕ, ◌<◌, [], map, slice_index_or}
use Rattle.word_core.specs.Machine.{IsDecided}
use Rattle.word_core.proofs.machines.first_with_gap.Given as goal

abbrev pub invariant-loop-state : goal.invariant-loop-state
invariant-loop-state l = (k : ℕ) → k < l.state → IsDecided l.others (slice_index_or (map (λ v. v.items) l.states) k [])
