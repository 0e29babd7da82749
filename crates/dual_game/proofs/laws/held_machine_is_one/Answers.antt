use Rattle.dual_game.proofs.OneWhole.{held_machine_is_one}
use Rattle.dual_game.proofs.laws.held_machine_is_one.Goals as goal

pub returns : goal.returns
returns c = held_machine_is_one
