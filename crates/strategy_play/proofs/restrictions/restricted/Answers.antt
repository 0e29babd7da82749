use Rattle.std.proofs.Common.{◌≡◌, ℕ, ◌+◌, ◌*◌, ◌^◌, ◌<◌, ◌∙◌, sym, ap, subst, arith, length, get_or, List}
use Rattle.std.proofs.lemmas.List.{length_push}
use Rattle.std.proofs.lemmas.Result.{IfOk-weaker}
use Rattle.word_core.specs.declared.branches.Branch.{Branch}
use Rattle.word_core.specs.declared.branches.Branch.TheVariants.{Leaf}
use Rattle.word_core.specs.Tree.{IsTree, AllTestBelow, label_of}
use Rattle.letter_tree.specs.Diagram.{TreeData}
use Rattle.strategy_play.specs.Restriction.{NodeFits, NodesFit, restricted_to}
use Rattle.strategy_play.proofs.Restricted.{AreMade, made_more, fit_push, fit_tree, fit_signals, restricted_label}
use Rattle.strategy_play.proofs.restrictions.restricted.Goals as goal

pub loop-node-preserved : goal.loop-node-preserved
loop-node-preserved c =
    let nodes = c.args.nodes.now in
    let labels = c.args.labels.now in
    let out = c.loop-node.out.items in
    let n = c.restricted_node-restricted.result in
    let more = length_push out n in
    let lt : length out < length nodes = omega (arith, c.loop-node.invariant.count, c.loop-node-test.true) in
    let is : n ≡ restricted_to labels c.args.width c.args.own out (get_or nodes (length out) (Leaf 0)) =
    c.restricted_node-restricted.ensures.value ∙ ap (λ os. restricted_to labels c.args.width c.args.own os (get_or nodes c.loop-node.node-index (Leaf 0))) c.deref.ensures.value
    ∙ ap (λ i. restricted_to labels c.args.width c.args.own out (get_or nodes i (Leaf 0))) (sym c.loop-node.invariant.count) in
    let fits : NodeFits c.args.other (length out) n = subst (λ (os : List Branch). NodeFits c.args.other (length os) n) c.deref.ensures.value c.restricted_node-restricted.ensures.fits in
    record {
      count = ap (λ (os : List Branch). length os) c.in_ok-push.ensures.items ∙ more ∙ ap (λ i. i + 1) c.loop-node.invariant.count;
      fit = subst (NodesFit c.args.other) (sym c.in_ok-push.ensures.items) (fit_push c.args.other out n c.loop-node.invariant.fit fits);
      made = subst (AreMade nodes labels c.args.width c.args.own) (sym c.in_ok-push.ensures.items)
          (made_more nodes labels _ _ c.args.width c.args.own out n c.requires.tree lt is c.loop-node.invariant.made);
    }

pub from_nodes-requires-clause-tree : goal.from_nodes-requires-clause-tree
from_nodes-requires-clause-tree c =
    let some : 0 < length c.loop-node.out.items = omega (arith, c.loop-node.invariant.count, c.requires.tree.tree.some, c.loop-node-test.false) in
    subst IsTree (sym c.deref-2.ensures.value) (fit_tree c.args.other c.loop-node.out.items (omega (arith, c.requires.narrow)) some c.loop-node.invariant.fit)

pub from_nodes-requires-clause-signals : goal.from_nodes-requires-clause-signals
from_nodes-requires-clause-signals c =
    subst (AllTestBelow c.args.other) (sym c.deref-2.ensures.value) (fit_signals c.args.other c.loop-node.out.items c.loop-node.invariant.fit)

pub returns-clause-label : goal.returns-clause-label
returns-clause-label c =
    let nodes = c.args.nodes.now in
    let out = c.loop-node.out.items in
    let size : length out ≡ length nodes = omega (arith, c.loop-node.invariant.count, c.loop-node-test.false, c.loop-node.auto.node-index-end) in
    let some : 0 < length out = omega (arith, c.requires.tree.tree.some) in
    let tree : IsTree out = fit_tree c.args.other out (omega (arith, c.requires.narrow)) some c.loop-node.invariant.fit in
    IfOk-weaker _ (λ (t : TreeData). (bits : ℕ) → label_of t.nodes bits ≡ label_of c.deref-2.result.now bits)
    (λ (t : TreeData). (bits : ℕ) → label_of t.nodes bits ≡ get_or c.args.labels.now (label_of nodes (c.args.own + bits * 2 ^ c.args.width)) 0) (λ t is bits. is bits ∙ ap (λ os. label_of os bits) c.deref-2.ensures.value
    ∙ restricted_label nodes out c.args.labels.now _ _ c.args.width c.args.own c.requires.tree tree size c.loop-node.invariant.made c.requires.own bits) c.from_nodes.ensures.label
