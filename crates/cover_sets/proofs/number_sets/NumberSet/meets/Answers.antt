use Rattle.std.proofs.Common.{arith}
use Rattle.cover_sets.proofs.Words.{meet_on, meet_end}
use Rattle.cover_sets.proofs.number_sets.NumberSet.meets.Goals as goal

pub loop-i-preserved : goal.loop-i-preserved
loop-i-preserved c = meet_on c.args.self.now.words c.args.other.now.words c.loop-i.i c.loop-i.shared _ c.args.self.now.fit c.args.other.now.fit (omega arith) c.loop-i.invariant

pub returns : goal.returns
returns c = meet_end c.args.self.now.words c.args.other.now.words c.loop-i.i c.loop-i.shared _ c.args.self.now.fit.0 c.args.other.now.fit.0 (omega arith) c.loop-i.invariant
