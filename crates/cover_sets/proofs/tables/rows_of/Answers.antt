use Rattle.std.proofs.Common.{arith}
use Rattle.cover_sets.proofs.FormulaRows.{rows_step, rows_end}
use Rattle.cover_sets.proofs.tables.rows_of.Goals as goal

pub loop-node-preserved : goal.loop-node-preserved
loop-node-preserved c =
    rows_step c.args.opposites.now c.loop-node.rows.items _ _ c.args.nodes.now c.loop-node.node-index _ c.in_ok-row.row _ (omega arith) c.loop-node.invariant.0 c.loop-node.invariant.1
    c.loop-node.invariant.2 c.deref.ensures.value c.in_ok-row.ensures.value c.in_ok-row.ensures.consistent c.in_ok-push.ensures.items

pub returns-clause-value : goal.returns-clause-value
returns-clause-value c = rows_end _ _ c.args.nodes.now c.loop-node.node-index _ (omega arith) c.loop-node.invariant.2
