use Rattle.cover_sets.proofs.ReducedLists.{reduced_is_exact}
use Rattle.cover_sets.proofs.laws.reduced_is_exact.Goals as goal

pub returns : goal.returns
returns c = reduced_is_exact
