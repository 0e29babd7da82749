use Rattle.game_core.proofs.Moments.{replay_one}
use Rattle.game_core.proofs.laws.replay_is_one.Goals as goal

pub returns : goal.returns
returns c = replay_one
