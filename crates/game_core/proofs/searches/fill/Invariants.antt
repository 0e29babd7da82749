use Rattle.std.proofs.Common.{take}
use Rattle.game_core.specs.Columns.{AreColumns, AreFull, HaveGrown}
use Rattle.game_core.proofs.searches.fill.Given as goal

abbrev pub invariant-loop-action : goal.invariant-loop-action
invariant-loop-action l =
    AreColumns l.g l.vectors l.columns × HaveGrown l.initial.columns l.columns × AreFull l.vectors l.columns (take l.action-index l.options)
