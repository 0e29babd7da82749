use Rattle.std.proofs.Common.{◌≡◌, true}
use Rattle.game_form.specs.Game.{lanes}
use Rattle.game_form.specs.Vector.{bound}
use Rattle.game_core.specs.Front.{extent}
use Rattle.game_core.specs.Rounds.{Leads}
use Rattle.game_core.specs.Solved.{Covers}
use Rattle.game_core.proofs.rounds.run.Given as goal

abbrev pub invariant-replacing : goal.invariant-replacing
invariant-replacing l =
    (l.b.game ≡ l.initial.b.game) × (Covers l.initial.b.game l.initial.b.list → Covers l.initial.b.game l.b.list)
    × (l.keep ≡ true → Leads l.whole l.initial.b l.initial.steps.items l.b l.steps.items)

abbrev pub decreases-replacing : goal.decreases-replacing
decreases-replacing l = extent (bound l.initial.b.game) (lanes l.initial.b.game) l.b.list
