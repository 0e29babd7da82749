use Rattle.std.proofs.Common.{◌≢◌, ℕ, ◌<◌}
use Rattle.game_core.specs.Flat.{IsFlat, over_at}
use Rattle.game_core.proofs.tops.leave.Given as goal

abbrev pub invariant-loop-i : goal.invariant-loop-i
invariant-loop-i l = IsFlat l.lows.items l.over.items × ((j : ℕ) → j < l.i → j ≢ l.gone → over_at l.over.items j ≢ l.gone)
