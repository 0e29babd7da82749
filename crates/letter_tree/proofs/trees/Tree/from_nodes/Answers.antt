use Rattle.std.proofs.Common.{◌≡◌, ◌<◌, ◌+◌, ◌-◌, length, length-append, get_or, Some, arith, ap, ◌∙◌, subst}
use Rattle.std.proofs.lemmas.Option.{slice_get-get_or}
use Rattle.std.proofs.lemmas.Result.{IfOk-weaker}
use Rattle.std.specs.List.{slice_get}
use Rattle.word_core.specs.declared.branches.Branch.TheVariants.{Leaf}
use Rattle.letter_tree.specs.Diagram.{TreeData}
use Rattle.letter_tree.specs.Listed.{IsNodeOf}
use Rattle.letter_tree.proofs.Lists.{IsTaken-push, IsTaken-grow, last_taken, taken_label}
use Rattle.letter_tree.proofs.trees.Tree.from_nodes.Goals as goal

pub loop-node-preserved : goal.loop-node-preserved
loop-node-preserved c =
    let g = c.in_ok-place.ensures.grows in
    let at : IsNodeOf c.taken.new.table (get_or c.args.nodes.now c.loop-node.node-index (Leaf 0)) c.loop-node.places.items c.in_ok-place.place =
    subst (λ ps. IsNodeOf c.taken.new.table (get_or c.args.nodes.now c.loop-node.node-index (Leaf 0)) ps c.in_ok-place.place) c.deref.ensures.value c.in_ok-place.ensures.at in
    let e : slice_get c.args.nodes.now (length c.loop-node.places.items) ≡ Some (get_or c.args.nodes.now c.loop-node.node-index (Leaf 0)) =
    ap (slice_get c.args.nodes.now) c.loop-node.invariant.count ∙ slice_get-get_or c.args.nodes.now c.loop-node.node-index (Leaf 0) c.loop-node-test.true in
    record {
      count = ap (λ t. length t) c.in_ok-push.ensures.items ∙ length-append _ _ ∙ ap (λ n. n + 1) c.loop-node.invariant.count;
      width = g.width ∙ c.loop-node.invariant.width;
      valid = g.diagram;
      taken = rw c.in_ok-push.ensures.items (IsTaken-push _ _ _ _ _ c.requires.tree e (IsTaken-grow _ _ _ _ g c.loop-node.invariant.taken) at);
    }

pub reduced-requires : goal.reduced-requires
reduced-requires c =
    let last : length c.args.nodes.now - 1 < length c.loop-node.places.items = omega (arith, c.loop-node.invariant.count, c.requires.tree.some, c.loop-node-test.false) in
    omega (arith, c.loop-node.invariant.taken.within (length c.args.nodes.now - 1) last, last_taken _ _ _ last c.index.ensures)

pub returns-clause-label : goal.returns-clause-label
returns-clause-label c =
    let last : length c.args.nodes.now - 1 < length c.loop-node.places.items = omega (arith, c.loop-node.invariant.count, c.requires.tree.some, c.loop-node-test.false) in
    IfOk-weaker _ _ _ (λ (t : TreeData) h. taken_label _ _ _ _ t.nodes c.loop-node.invariant.taken last c.index.ensures h) c.reduced.ensures.label
