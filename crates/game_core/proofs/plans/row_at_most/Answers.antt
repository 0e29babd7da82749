use Rattle.std.proofs.Common.{arith}
use Rattle.game_core.proofs.Options.{number_all}
use Rattle.game_core.proofs.plans.row_at_most.Goals as goal

pub returns : goal.returns
returns c = λ _. number_all c.args.a.now c.args.b.now (λ k d lt. c.loop-step.invariant k d (omega arith))
