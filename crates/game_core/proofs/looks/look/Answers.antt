use Rattle.std.proofs.Common.{◌∙◌, sym}
use Rattle.game_core.proofs.Remaining.{first_remains, second_remains}
use Rattle.game_core.proofs.Weaker.{ok_none_weaker}
use Rattle.game_core.proofs.Works.{first_plan, second_plan}
use Rattle.game_core.proofs.looks.look.Goals as goal

pub returns-in-Second-clause-stays : goal.returns-in-Second-clause-stays
returns-in-Second-clause-stays c =
    ok_none_weaker c.look_second.result c.look_second.ensures.stays
    (λ h. sym (second_plan c.args.g.now c.known.ensures c.args.plan.now c.requires.plan c.args.vectors.now c.args.f.now (sym c.kind.ensures ∙ c.in-Second.is)) ∙ h)

pub returns-in-First-clause-stays : goal.returns-in-First-clause-stays
returns-in-First-clause-stays c =
    ok_none_weaker c.look_first.result c.look_first.ensures.stays
    (λ h. sym (first_plan c.args.g.now c.known.ensures c.args.plan.now c.requires.plan c.args.vectors.now c.args.f.now (sym c.kind.ensures ∙ c.in-First.is)) ∙ h)

pub returns-in-Second-clause-remains : goal.returns-in-Second-clause-remains
returns-in-Second-clause-remains c =
    second_remains c.args.g.now c.known.ensures c.args.plan.now c.requires.plan c.args.vectors.now c.args.f.now c.look_second.result (sym c.kind.ensures ∙ c.in-Second.is)
    c.look_second.ensures.pieces c.look_second.ensures.apart c.look_second.ensures.whole

pub returns-in-First-clause-remains : goal.returns-in-First-clause-remains
returns-in-First-clause-remains c =
    first_remains c.args.g.now c.known.ensures c.args.plan.now c.requires.plan c.args.vectors.now c.args.f.now c.look_first.result (sym c.kind.ensures ∙ c.in-First.is)
    c.look_first.ensures.pieces c.look_first.ensures.apart c.look_first.ensures.whole
