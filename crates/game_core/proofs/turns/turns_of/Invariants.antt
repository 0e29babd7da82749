use Rattle.game_core.specs.Turns.{AreTurns}
use Rattle.game_core.proofs.turns.turns_of.Given as goal

abbrev pub invariant-loop-class : goal.invariant-loop-class
invariant-loop-class l = AreTurns l.count l.turns.items
