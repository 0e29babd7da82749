use Rattle.std.proofs.Common.{arith}
use Rattle.cover_sets.proofs.Orders.{no_difference}
use Rattle.cover_sets.proofs.number_sets.NumberSet.compare.Goals as goal

pub returns : goal.returns
returns c = no_difference c.args.self.now.words c.args.other.now.words c.loop-i.i c.args.self.now.fit.0 c.args.other.now.fit.0 (omega arith) c.loop-i.invariant
