use Rattle.game_core.proofs.Unique.{held_unique}
use Rattle.game_core.proofs.laws.held_is_one.Goals as goal

pub returns : goal.returns
returns c = held_unique
