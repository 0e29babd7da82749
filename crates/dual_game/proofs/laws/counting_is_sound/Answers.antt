use Rattle.dual_game.proofs.Counted.{counting_is_sound}
use Rattle.dual_game.proofs.laws.counting_is_sound.Goals as goal

pub returns : goal.returns
returns c = counting_is_sound
