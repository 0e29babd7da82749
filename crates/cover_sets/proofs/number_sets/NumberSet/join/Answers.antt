use Rattle.std.proofs.Common.{arith}
use Rattle.cover_sets.proofs.Words.{joining_none, joining_more, joining_all}
use Rattle.cover_sets.proofs.number_sets.NumberSet.join.Goals as goal

pub loop-i-init : goal.loop-i-init
loop-i-init c = joining_none _ _ c.args.self.now.fit c.args.other.now.fit

pub loop-i-preserved : goal.loop-i-preserved
loop-i-preserved c = joining_more _ _ _ c.loop-i.i c.loop-i.invariant (omega arith)

pub invariant_of-result : goal.invariant_of-result
invariant_of-result c = record { fit = c.loop-i.invariant.fit }

pub returns : goal.returns
returns c = joining_all _ _ _ c.loop-i.i c.loop-i.invariant (omega arith)
