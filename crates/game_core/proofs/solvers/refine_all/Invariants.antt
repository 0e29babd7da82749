use Rattle.game_form.specs.Game.{lanes}
use Rattle.game_form.specs.Vector.{bound}
use Rattle.game_core.specs.Entries.{AreEntries}
use Rattle.game_core.specs.Front.{extent}
use Rattle.game_core.specs.Columns.{AreColumns}
use Rattle.game_core.specs.Solved.{Covers}
use Rattle.game_core.specs.Turns.{AreTurns}
use Rattle.std.proofs.Common.{length}
use Rattle.game_core.proofs.solvers.refine_all.Given as goal

abbrev pub invariant-refining : goal.invariant-refining
invariant-refining l =
    AreEntries l.g l.slots l.entries.vectors.items l.entries.pending.items l.entries.notes.items × AreColumns l.g l.entries.vectors.items l.columns
    × Covers l.g l.entries.vectors.items × AreTurns (length l.plan) l.turns.items

abbrev pub decreases-refining : goal.decreases-refining
decreases-refining l = extent (bound l.g) (lanes l.g) l.entries.vectors.items
