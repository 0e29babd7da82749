use Rattle.std.proofs.Common.{◌∙◌, ap, ℕ, Vec}
use Rattle.std.specs.declared.alloc.Global.{Global}
use Rattle.game_core.proofs.Failing.{fails_pushed}
use Rattle.game_core.proofs.looks.try_classes.Goals as goal

pub loop-c-preserved : goal.loop-c-preserved
loop-c-preserved c = (
  c.loop-c.invariant.0,
  rw c.in_ok-push-in-Some.ensures.items
      (fails_pushed c.args.f.now c.args.columns.now c.args.plan.now c.loop-c.c c.loop-c.failing.items c.deref.result.now c.index-plan-c.result c.in-Some.action
      c.loop-c.invariant.1 c.loop-c-test.true (c.deref.ensures.value ∙ ap (λ (v : Vec ℕ Global). v.items) c.index-plan-c.is)
      c.in-Some.ensures.option c.in-Some.ensures.some.0 c.in-Some.ensures.some.1),
)
