use Rattle.std.proofs.Common.{◌∙◌, ap, subst, arith, ℕ, Vec, take_all}
use Rattle.std.specs.List.{All}
use Rattle.std.specs.declared.alloc.Global.{Global}
use Rattle.game_core.specs.Columns.{AreFull}
use Rattle.game_core.proofs.FullColumns.{plan_full_more}
use Rattle.game_core.proofs.looks.fill_all.Goals as goal

pub loop-c-preserved : goal.loop-c-preserved
loop-c-preserved c = (
  c.fill.ensures.columns,
  plan_full_more c.args.g.now c.args.vectors.now c.loop-c.columns c.fill.new.columns c.args.plan.now c.loop-c.c c.index-plan-c.result c.deref.result.now
      c.loop-c-test.true (c.deref.ensures.value ∙ ap (λ (v : Vec ℕ Global). v.items) c.index-plan-c.is) c.fill.ensures.columns c.fill.ensures.grown c.requires.plan
      c.loop-c.invariant.1 c.in_ok-fill.ensures.full,
)

pub returns-clause-full : goal.returns-clause-full
returns-clause-full c =
    subst (All (λ (v : Vec ℕ Global). AreFull c.args.vectors.now c.loop-c.columns v.items)) (take_all c.loop-c.c c.args.plan.now (omega arith)) c.loop-c.invariant.1
