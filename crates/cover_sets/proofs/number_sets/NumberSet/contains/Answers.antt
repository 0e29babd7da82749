use Rattle.cover_sets.proofs.Words.{has_bit}
use Rattle.cover_sets.proofs.number_sets.NumberSet.contains.Goals as goal

pub returns : goal.returns
returns c = has_bit c.args.self.now.words c.args.n c.args.self.now.fit.1
