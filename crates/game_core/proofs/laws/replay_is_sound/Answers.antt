use Rattle.game_core.proofs.Moments.{moments_sound}
use Rattle.game_core.proofs.laws.replay_is_sound.Goals as goal

pub returns : goal.returns
returns c = moments_sound
