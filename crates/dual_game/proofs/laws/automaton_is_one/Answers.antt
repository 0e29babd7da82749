use Rattle.dual_game.proofs.OneAutomaton.{automaton_is_one}
use Rattle.dual_game.proofs.laws.automaton_is_one.Goals as goal

pub returns : goal.returns
returns c = automaton_is_one
