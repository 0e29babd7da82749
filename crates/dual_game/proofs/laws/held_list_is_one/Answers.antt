use Rattle.dual_game.proofs.OneList.{held_list_is_one}
use Rattle.dual_game.proofs.laws.held_list_is_one.Goals as goal

pub returns : goal.returns
returns c = held_list_is_one
