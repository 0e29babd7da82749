use Rattle.dual_game.proofs.OneWinner.{only_one_wins}
use Rattle.dual_game.proofs.laws.only_one_wins.Goals as goal

pub returns : goal.returns
returns c = only_one_wins
