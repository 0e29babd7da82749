use Rattle.std.proofs.Common.{◌≡◌}
use Rattle.game_core.specs.Flat.{IsFlat, over_at}
use Rattle.game_core.proofs.tops.gather.Given as goal

abbrev pub invariant-loop-i : goal.invariant-loop-i
invariant-loop-i l = IsFlat l.lows.items l.over.items × (over_at l.over.items l.to ≡ l.to)
