use Rattle.std.proofs.Common.{◌∙◌, ap, arith, Vec, ℕ, slice_index_or}
use Rattle.std.specs.declared.alloc.Global.{Global}
use Rattle.game_core.proofs.Unders.{classes_more}
use Rattle.game_core.proofs.refinements.refine_classes.Goals as goal

pub loop-c-preserved : goal.loop-c-preserved
loop-c-preserved c = (
  c.in_ok-add_all.ensures.kept,
  c.in_ok-add_all.ensures.apart,
  λ u.
      classes_more u c.args.f.now c.loop-c.kept.items c.in_ok-pieces.pieces.items c.add_all.new.kept.items c.args.columns.now c.args.plan.now c.deref.result.now
      (slice_index_or c.args.failing.now c.loop-c.c 0) c.loop-c.c c.index-plan-c.result c.loop-c-test.true
      (c.deref.ensures.value ∙ ap (λ (v : Vec ℕ Global). v.items) c.index-plan-c.is)
      (c.requires.options c.loop-c.c c.index-plan-c.result 0 (omega (arith, c.requires.each)) c.loop-c-test.true)
      (c.loop-c.invariant.2 u) (c.in_ok-pieces.ensures.under u) (c.in_ok-add_all.ensures.under u),
)
