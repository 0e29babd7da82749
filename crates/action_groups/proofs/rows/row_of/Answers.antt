use Rattle.action_groups.proofs.RowNumbers.{row_stopped}
use Rattle.action_groups.proofs.rows.row_of.Goals as goal

pub returns-then-from-lane-clause-exact : goal.returns-then-from-lane-clause-exact
returns-then-from-lane-clause-exact c =
    row_stopped c.args.steps.now c.args.at c.args.lane c.loop-i.i c.loop-i.next c.loop-i.row.items c.requires.steps.rising c.requires.later c.loop-i.auto.i c.loop-i-test.true c.if-from-lane.true c.loop-i.invariant.1
