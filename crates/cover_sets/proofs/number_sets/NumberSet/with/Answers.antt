use Rattle.cover_sets.proofs.Words.{fit_with, is_with}
use Rattle.cover_sets.proofs.number_sets.NumberSet.with.Goals as goal

pub invariant_of-result : goal.invariant_of-result
invariant_of-result c = record { fit = fit_with c.args.self.now.words c.args.n c.args.self.now.fit c.requires }

pub returns : goal.returns
returns c = is_with c.args.self.now.words c.args.n c.args.self.now.fit c.requires
