use Rattle.std.proofs.Common.{take}
use Rattle.game_core.specs.Columns.{AreColumns}
use Rattle.game_core.specs.Plan.{NoneWorks}
use Rattle.game_core.proofs.searches.find_answer.Given as goal

abbrev pub invariant-loop-action : goal.invariant-loop-action
invariant-loop-action l = AreColumns l.g l.vectors l.columns × NoneWorks l.g l.vectors l.f (take l.action-index l.options)
