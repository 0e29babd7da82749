use Rattle.std.proofs.Common.{arith}
use Rattle.cover_sets.proofs.Words.{fold_start, fold_more, fold_end}
use Rattle.cover_sets.proofs.number_sets.NumberSet.folded.Goals as goal

pub loop-i-init : goal.loop-i-init
loop-i-init c = fold_start c.args.self.now.words

pub loop-i-preserved : goal.loop-i-preserved
loop-i-preserved c = fold_more c.args.self.now.words c.loop-i.i c.loop-i.bits c.args.self.now.fit.0 (omega arith) c.loop-i.invariant

pub returns : goal.returns
returns c = fold_end c.args.self.now.words c.loop-i.i c.loop-i.bits c.args.self.now.fit.0 (omega arith) c.loop-i.invariant
