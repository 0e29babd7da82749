use Rattle.strategy_play.proofs.OneMachine.{machine_is_one}
use Rattle.strategy_play.proofs.laws.machine_is_one.Goals as goal

pub returns : goal.returns
returns c = machine_is_one
