use Rattle.counter_vec.proofs.Vectors.{met_decided, met_lengths_differ}
use Rattle.counter_vec.proofs.flows.met_lanes_at_or_below.Goals as goal

pub returns-then-a-c : goal.returns-then-a-c
returns-then-a-c c = met_decided c.args.a.now c.args.b.now c.args.c.now c.meet_le.result c.requires c.if-a-c.true c.meet_le.ensures.0 c.meet_le.ensures.1

pub returns-else-a-c : goal.returns-else-a-c
returns-else-a-c c = met_lengths_differ c.args.a.now c.args.b.now c.args.c.now c.requires c.if-a-c.false
