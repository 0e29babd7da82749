use Rattle.dual_game.proofs.Reached.{counting_is_exact}
use Rattle.dual_game.proofs.laws.counting_is_exact.Goals as goal

pub returns : goal.returns
returns c = counting_is_exact
