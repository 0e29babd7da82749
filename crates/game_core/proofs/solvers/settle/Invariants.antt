use Rattle.game_core.specs.Columns.{AreColumns}
use Rattle.game_core.specs.Known.{HaveAnswers}
use Rattle.game_core.specs.Pending.{marked}
use Rattle.game_core.specs.Turns.{AreTurns}
use Rattle.std.proofs.Common.{length}
use Rattle.game_core.proofs.solvers.settle.Given as goal

abbrev pub invariant-loop-place : goal.invariant-loop-place
invariant-loop-place l = HaveAnswers l.slots l.notes × AreColumns l.g l.vectors l.columns × AreTurns (length l.plan) l.turns.items

abbrev pub decreases-loop-place : goal.decreases-loop-place
decreases-loop-place l = marked l.pending
