use Rattle.game_core.proofs.Unique.{never_both, settled_unique}
use Rattle.game_core.proofs.laws.answer_is_one.Goals as goal

pub returns : goal.returns
returns c = λ g whole. record { list = settled_unique g whole; lost = never_both g whole }
