use Rattle.std.proofs.Common.{◌∙◌, sym}
use Rattle.game_core.proofs.Remaining.{first_remains, second_remains}
use Rattle.game_core.proofs.looks.look_trusting.Goals as goal

pub returns-in-Second-clause-remains : goal.returns-in-Second-clause-remains
returns-in-Second-clause-remains c =
    second_remains c.args.g.now c.known.ensures c.args.plan.now c.requires.plan c.args.vectors.now c.args.f.now c.look_by_turns.result (sym c.kind.ensures ∙ c.in-Second.is)
    c.look_by_turns.ensures.pieces c.look_by_turns.ensures.apart c.look_by_turns.ensures.whole

pub returns-in-First-clause-remains : goal.returns-in-First-clause-remains
returns-in-First-clause-remains c =
    first_remains c.args.g.now c.known.ensures c.args.plan.now c.requires.plan c.args.vectors.now c.args.f.now c.look_first.result (sym c.kind.ensures ∙ c.in-First.is)
    c.look_first.ensures.pieces c.look_first.ensures.apart c.look_first.ensures.whole
