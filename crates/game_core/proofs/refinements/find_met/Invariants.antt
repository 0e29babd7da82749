use Rattle.std.proofs.Common.{◌≡◌, ℕ, ◌<◌, false, List, slice_index_or}
use Rattle.std.specs.Prelude.{ℤ}
use Rattle.counter_vec.specs.Counters.{at_or_below, met}
use Rattle.game_core.proofs.refinements.find_met.Given as goal

abbrev pub invariant-loop-i : goal.invariant-loop-i
invariant-loop-i l = (k : ℕ) (d : List ℤ) → k < l.i → at_or_below (met l.v l.p) (slice_index_or l.vectors k d) ≡ false
