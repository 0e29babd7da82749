use Rattle.dual_game.proofs.Valuations.{play_is_one}
use Rattle.dual_game.proofs.laws.play_is_one.Goals as goal

pub returns : goal.returns
returns c = play_is_one
