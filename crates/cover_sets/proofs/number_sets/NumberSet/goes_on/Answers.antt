use Rattle.std.proofs.Common.{arith}
use Rattle.cover_sets.proofs.Orders.{goes_here, goes_later, goes_nowhere}
use Rattle.cover_sets.proofs.number_sets.NumberSet.goes_on.Goals as goal

pub returns-then-self-i-ne0 : goal.returns-then-self-i-ne0
returns-then-self-i-ne0 c = goes_here c.args.self.now.words c.args.i c.args.first c.args.self.now.fit c.requires.place c.if-self-i-ne0.true

pub returns-then-self-k-ne0 : goal.returns-then-self-k-ne0
returns-then-self-k-ne0 c =
    goes_later c.args.self.now.words c.args.i c.args.first c.loop-k.k c.args.self.now.fit (omega arith) (omega arith) c.requires.bit c.if-self-k-ne0.true

pub returns : goal.returns
returns c =
    goes_nowhere c.args.self.now.words c.args.i c.args.first c.loop-k.k c.args.self.now.fit c.requires.place (omega arith) c.requires.bit c.if-self-i-ne0.false
    c.loop-k.invariant
