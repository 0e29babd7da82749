use Rattle.std.proofs.Common.{◌≡◌, sym, ◌∙◌, subst, refl, arith}
use Rattle.std.proofs.lemmas.Result.{IfOk-weaker}
use Rattle.word_core.specs.declared.branches.Branch.TheVariants.{Leaf}
use Rattle.letter_tree.specs.Diagram.{IsDiagram, AreDistinct}
use Rattle.letter_tree.specs.Cut.{all_stopped}
use Rattle.letter_tree.proofs.CutNodes.{all_stopped-more, all_stopped-all, all_stopped-length, stopped_diagram, stopped_distinct, IsFront-reached}
use Rattle.letter_tree.proofs.cuts.front.Goals as goal

pub loop-place-preserved : goal.loop-place-preserved
loop-place-preserved c =
    all_stopped-more _ _ _ (Leaf 0) _ _ _ c.loop-place-test.true c.loop-place.invariant c.in_ok-push.ensures.items c.stop.ensures

pub reached-requires-clause-diagram : goal.reached-requires-clause-diagram
reached-requires-clause-diagram c =
    let e : c.deref.result.now ≡ all_stopped c.args.width 0 c.args.nodes.now =
    c.deref.ensures.value ∙ all_stopped-all _ _ _ _ c.loop-place-test.false c.loop-place.invariant in
    subst (IsDiagram c.args.width) (sym e) (stopped_diagram _ _ _ c.requires.tree.diagram c.requires.width)

pub reached-requires-clause-distinct : goal.reached-requires-clause-distinct
reached-requires-clause-distinct c =
    let e : c.deref.result.now ≡ all_stopped c.args.width 0 c.args.nodes.now =
    c.deref.ensures.value ∙ all_stopped-all _ _ _ _ c.loop-place-test.false c.loop-place.invariant in
    subst AreDistinct (sym e) (stopped_distinct _ _ c.requires.tree.distinct)

pub reached-requires-clause-root_in : goal.reached-requires-clause-root_in
reached-requires-clause-root_in c =
    let e : c.deref.result.now ≡ all_stopped c.args.width 0 c.args.nodes.now =
    c.deref.ensures.value ∙ all_stopped-all _ _ _ _ c.loop-place-test.false c.loop-place.invariant in
    omega (arith, c.requires.tree.some, all_stopped-length _ _ _ e)

pub returns : goal.returns
returns c =
    let e : c.deref.result.now ≡ all_stopped c.args.width 0 c.args.nodes.now =
    c.deref.ensures.value ∙ all_stopped-all _ _ _ _ c.loop-place-test.false c.loop-place.invariant in
    IfOk-weaker _ _ _ (λ out k. IsFront-reached _ _ _ _ _ _ c.requires.tree c.requires.width e refl k) c.reached.ensures
