use Rattle.std.proofs.Common.{arith}
use Rattle.cover_sets.proofs.Words.{part_on, part_off, part_end}
use Rattle.cover_sets.proofs.number_sets.NumberSet.is_part_of.Goals as goal

pub returns-then-self-i : goal.returns-then-self-i
returns-then-self-i c =
    part_off c.args.self.now.words c.args.other.now.words c.loop-i.i _ c.args.self.now.fit c.args.other.now.fit (omega arith) c.loop-i.invariant c.if-self-i.true

pub loop-i-preserved : goal.loop-i-preserved
loop-i-preserved c =
    part_on c.args.self.now.words c.args.other.now.words c.loop-i.i _ c.args.self.now.fit c.args.other.now.fit (omega arith) c.loop-i.invariant c.if-self-i.false

pub returns : goal.returns
returns c = part_end c.args.self.now.words c.args.other.now.words c.loop-i.i _ c.args.self.now.fit.0 c.args.other.now.fit.0 (omega arith) c.loop-i.invariant
