use Rattle.dual_game.proofs.OneWinner.{keeps_above}
use Rattle.dual_game.proofs.laws.keeps_above.Goals as goal

pub returns : goal.returns
returns c = keeps_above
