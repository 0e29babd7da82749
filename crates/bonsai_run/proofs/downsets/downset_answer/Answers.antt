use Rattle.std.proofs.Common.{true, ap, ◌∙◌, subst}
use Rattle.game_core.specs.Solved.{IsSolution}
use Rattle.bonsai_run.specs.Answers.{downset_text}
use Rattle.bonsai_run.proofs.Answering.{is_downset}
use Rattle.bonsai_run.proofs.downsets.downset_answer.Goals as goal

pub returns-clause-answer : goal.returns-clause-answer
returns-clause-answer c = λ texts name as_written of.
    let g = c.in_ok-g.g in
    let settled = subst (IsSolution g true) c.in-Held.is c.in_ok-list.ensures in
    is_downset texts name c.args.player c.args.bound as_written c.args.spec.now c.in_ok-a.a g c.in-Held.list c.in_ok-held_answer-in-Held.field-0.status c.in_ok-held_answer-in-Held.field-0.text.items
    of c.in_ok-a.ensures.made c.known.ensures c.in_ok-g.ensures (settled.exact c.in_ok-g.ensures.letters c.in_ok-g.ensures.covers) c.ascends.ensures c.in_ok-held_answer-in-Held.ensures.status
    (c.in_ok-held_answer-in-Held.ensures.text ∙ ap (λ n. downset_text c.args.player c.args.bound n c.in-Held.list) c.lanes.ensures)
