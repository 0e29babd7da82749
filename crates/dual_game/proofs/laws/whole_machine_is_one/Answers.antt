use Rattle.dual_game.proofs.OneWhole.{whole_machine_is_one}
use Rattle.dual_game.proofs.laws.whole_machine_is_one.Goals as goal

pub returns : goal.returns
returns c = whole_machine_is_one
