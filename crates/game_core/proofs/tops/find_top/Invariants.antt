use Rattle.std.proofs.Common.{◌≡◌, ℕ, ◌<◌, false}
use Rattle.counter_vec.specs.Counters.{at_or_below}
use Rattle.game_core.specs.Flat.{over_at, low_at}
use Rattle.game_core.proofs.tops.find_top.Given as goal

abbrev pub invariant-loop-i : goal.invariant-loop-i
invariant-loop-i l = (k : ℕ) → k < l.i → over_at l.over.items k ≡ k → at_or_below l.f (low_at l.lows.items k) ≡ false
