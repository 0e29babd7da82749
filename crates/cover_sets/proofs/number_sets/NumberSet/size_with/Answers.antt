use Rattle.std.proofs.Common.{arith}
use Rattle.cover_sets.proofs.Words.{size_next, size_end}
use Rattle.cover_sets.proofs.number_sets.NumberSet.size_with.Goals as goal

pub overflow_add-size : goal.overflow_add-size
overflow_add-size c = omega (arith, c.loop-i.invariant.1, c.ones-size.ensures.small)

pub loop-i-preserved : goal.loop-i-preserved
loop-i-preserved c = (
  size_next c.args.self.now.words c.args.other.now.words c.loop-i.i c.loop-i.size c.ones-size.result _ c.args.self.now.fit c.args.other.now.fit (omega arith) c.loop-i.invariant.0
      c.ones-size.ensures.value,
  omega (arith, c.loop-i.invariant.1, c.ones-size.ensures.small),
)

pub returns-clause-value : goal.returns-clause-value
returns-clause-value c = size_end c.args.self.now.words c.args.other.now.words c.loop-i.i c.loop-i.size _ c.args.self.now.fit.0 c.args.other.now.fit.0 (omega arith) c.loop-i.invariant.0
