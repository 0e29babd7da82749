use Rattle.counter_vec.proofs.Vectors.{below_decided, lengths_differ}
use Rattle.counter_vec.proofs.flows.lanes_at_or_below.Goals as goal

pub returns-then-a-b : goal.returns-then-a-b
returns-then-a-b c = below_decided c.args.a.now c.args.b.now c.le.result c.le.ensures.0 c.le.ensures.1

pub returns-else-a-b : goal.returns-else-a-b
returns-else-a-b c = lengths_differ c.args.a.now c.args.b.now c.if-a-b.false
