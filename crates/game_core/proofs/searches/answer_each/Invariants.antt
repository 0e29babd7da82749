use Rattle.std.proofs.Common.{◌≡◌, true, take}
use Rattle.game_core.specs.Columns.{each_covers}
use Rattle.game_core.proofs.searches.answer_each.Given as goal

abbrev pub invariant-loop-i : goal.invariant-loop-i
invariant-loop-i l = each_covers l.f l.columns (take l.i l.options) ≡ true
