use Rattle.std.proofs.Common.{arith}
use Rattle.cover_sets.proofs.FormulaRows.{opposites_more, pairs_end}
use Rattle.cover_sets.proofs.tables.opposites_of.Goals as goal

pub loop-n-preserved : goal.loop-n-preserved
loop-n-preserved c = opposites_more c.args.nodes.now c.loop-n.n _ _ c.loop-n.invariant c.in_ok-add_negations.ensures

pub returns-clause-pairs : goal.returns-clause-pairs
returns-clause-pairs c = pairs_end c.args.nodes.now _ c.loop-n.n c.requires (omega arith) c.loop-n.invariant
