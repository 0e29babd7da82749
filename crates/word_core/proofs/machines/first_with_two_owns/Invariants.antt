use Rattle.std.proofs.Common.{ℕ, ◌<◌, [], map, slice_index_or}
use Rattle.word_core.specs.Machine.{HasOneOwn}
use Rattle.word_core.proofs.machines.first_with_two_owns.Given as goal

abbrev pub invariant-loop-state : goal.invariant-loop-state
invariant-loop-state l = (k : ℕ) → k < l.state → HasOneOwn (slice_index_or (map (λ v. v.items) l.states) k [])
