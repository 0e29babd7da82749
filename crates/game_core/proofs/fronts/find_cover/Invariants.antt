use Rattle.std.proofs.Common.{◌≡◌, ℕ, ◌<◌, ◌≤◌, false, List, length, slice_index_or}
use Rattle.std.specs.Prelude.{ℤ}
use Rattle.counter_vec.specs.Counters.{at_or_below}
use Rattle.game_core.proofs.fronts.find_cover.Given as goal

abbrev pub invariant-loop-i : goal.invariant-loop-i
invariant-loop-i l = (k : ℕ) (d : List ℤ) → l.i ≤ k → k < length l.vectors → at_or_below l.v (slice_index_or l.vectors k d) ≡ false
