use Rattle.bonsai_run.proofs.OneAnswers.{answer_is_one}
use Rattle.bonsai_run.proofs.laws.answer_is_one.Goals as goal

pub returns : goal.returns
returns c = answer_is_one
