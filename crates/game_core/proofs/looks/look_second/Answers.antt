use Rattle.std.proofs.Common.{◌∙◌, ap, ℕ, Vec}
use Rattle.std.specs.declared.alloc.Global.{Global}
use Rattle.cpre_step.specs.Refinement.{action_works}
use Rattle.game_core.proofs.FullColumns.{planned_at}
use Rattle.game_core.proofs.looks.look_second.Goals as goal

pub returns-in-None-clause-whole : goal.returns-in-None-clause-whole
returns-in-None-clause-whole c = λ u vector below planned.
    c.in_ok-remains_of-in-None.ensures.whole u vector below
    (planned_at (action_works c.args.g.now c.args.vectors.now u) c.args.plan.now c.loop-c.c c.index-plan-c.result c.deref-options.result.now c.loop-c-test.true
    (c.deref-options.ensures.value ∙ ap (λ (v : Vec ℕ Global). v.items) c.index-plan-c.is) planned)
