use Rattle.tlsf_basic.proofs.OneAnswer.{one_answer}
use Rattle.tlsf_basic.proofs.laws.one_answer.Goals as goal

pub returns : goal.returns
returns c = one_answer
