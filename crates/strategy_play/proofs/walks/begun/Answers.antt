use Rattle.strategy_play.proofs.Walked.{walk_begins}
use Rattle.strategy_play.proofs.walks.begun.Goals as goal

pub returns-clause-walk : goal.returns-clause-walk
returns-clause-walk c = rw (c.in_ok-numbers.ensures, c.in_ok-order.ensures.items) (walk_begins c.args.count c.args.first c.requires)
