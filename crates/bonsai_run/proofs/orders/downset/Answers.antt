use Rattle.bonsai_run.proofs.Causing.{player_limits}
use Rattle.bonsai_run.proofs.orders.downset.Goals as goal

pub returns-clause-answer : goal.returns-clause-answer
returns-clause-answer g c = c.downset_answer.ensures.answer (g.H.Shelf.texts c.args.shelf.now) c.args.name.now c.args.as_written c.in_ok-spec.ensures.is

pub returns-clause-cause : goal.returns-clause-cause
returns-clause-cause g c =
    player_limits (g.H.Shelf.texts c.args.shelf.now) c.args.name.now c.args.as_written c.in_ok-spec.spec c.in_ok-spec.ensures.is c.args.player c.downset_answer.result c.downset_answer.ensures.fault
