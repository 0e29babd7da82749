use Rattle.game_core.proofs.Boarded.{held_closed}
use Rattle.game_core.proofs.laws.held_is_closed.Goals as goal

pub returns : goal.returns
returns c = held_closed
