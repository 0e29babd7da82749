use Rattle.bonsai_run.proofs.Answering.{is_decided}
use Rattle.bonsai_run.proofs.orders.decided_answer.Goals as goal

pub returns-clause-answer : goal.returns-clause-answer
returns-clause-answer c = λ texts name workers as_written of.
    let v = c.in_ok-verdict.ensures.verdict in
    is_decided texts name c.args.bounds workers as_written c.args.spec.now v.0 c.in_ok-verdict.verdict c.in_ok-verdict_answer.field-0.status c.in_ok-verdict_answer.field-0.text.items
    of v.1 v.2 c.in_ok-verdict_answer.ensures.status c.in_ok-verdict_answer.ensures.text
