use Rattle.std.proofs.Common.{◌≡◌, true}
use Rattle.game_core.specs.Board.{open_count}
use Rattle.game_core.specs.Rounds.{Leads}
use Rattle.game_core.proofs.rounds.replace_next.Given as goal

abbrev pub invariant-loop-o : goal.invariant-loop-o
invariant-loop-o l =
    (l.b.game ≡ l.initial.b.game) × (l.b.list ≡ l.initial.b.list)
    × (l.keep ≡ true → Leads l.whole l.initial.b l.initial.steps.items l.b l.steps.items)

abbrev pub decreases-loop-o : goal.decreases-loop-o
decreases-loop-o l = open_count l.b.marks
