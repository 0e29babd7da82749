use Rattle.dual_game.proofs.OneWinner.{kept_is_refused}
use Rattle.dual_game.proofs.laws.kept_is_refused.Goals as goal

pub returns : goal.returns
returns c = kept_is_refused
