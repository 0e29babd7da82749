use Rattle.std.specs.Prelude.{ℕ}
use Rattle.bonsai_words.specs.Ordered.Asked.{synth}
use Rattle.dual_game.specs.Automata.{IsLimitOfPair}
use Rattle.bonsai_run.specs.declared.answers.Answer.{Answer}
use Rattle.bonsai_run.specs.Answers.{IsAnswer}
use Rattle.bonsai_run.proofs.Causing.{limit_causes, each_answer}
use Rattle.bonsai_run.proofs.orders.synth.Goals as goal

pub returns-clause-answer : goal.returns-clause-answer
returns-clause-answer g c =
    each_answer c.decided_answer.result (λ (a : Answer) (workers : ℕ). IsAnswer (g.H.Shelf.texts c.args.shelf.now) (synth c.args.name.now c.args.bounds workers c.args.as_written) a.status a.text.items)
    (λ workers. c.decided_answer.ensures.answer (g.H.Shelf.texts c.args.shelf.now) c.args.name.now workers c.args.as_written c.in_ok-spec.ensures.is)

pub returns-clause-cause : goal.returns-clause-cause
returns-clause-cause g c =
    limit_causes (g.H.Shelf.texts c.args.shelf.now) c.args.name.now c.args.as_written c.in_ok-spec.spec c.in_ok-spec.ensures.is IsLimitOfPair c.decided_answer.result c.decided_answer.ensures.fault
