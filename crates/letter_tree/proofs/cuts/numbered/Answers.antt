use Rattle.std.proofs.Common.{◌≡◌, ℕ, ◌<◌, ◌≤◌, List, length, get_or, map, sym, ap, ◌∙◌, subst, arith}
use Rattle.word_core.specs.declared.branches.Branch.{Branch}
use Rattle.word_core.specs.Tree.{label_of, AllLabels}
use Rattle.letter_tree.specs.Diagram.{TreeData, IsRooted}
use Rattle.letter_tree.specs.Cut.{relabelled}
use Rattle.letter_tree.proofs.CutNodes.{relabelled_rooted, relabelled_labels, relabelled-all, label_relabelled}
use Rattle.letter_tree.proofs.Rests.{placed_label, numbers_apart}
use Rattle.letter_tree.proofs.cuts.numbered.Goals as goal

pub of_parts-requires : goal.of_parts-requires
of_parts-requires c =
    let h : length c.args.cut.now.nodes ≤ c.loop-node.node-index =
    omega (arith, c.loop-node-test.false, ap (λ (t : List Branch). length t) c.branches-node-items.ensures.value) in
    let e : c.loop-node.nodes.items ≡ map (relabelled c.in_ok-numbers.numbers.items) c.args.cut.now.nodes = relabelled-all _ _ _ _ h c.loop-node.invariant in
    subst (λ w. IsRooted w c.loop-node.nodes.items) (sym c.width.ensures.width)
    (subst (IsRooted c.args.cut.now.width) (sym e) (relabelled_rooted _ _ _ c.branches-node-items.ensures.known
    (numbers_apart _ _ c.args.ends.now _ c.branches-node-items.ensures.known c.requires.known c.in_ok-numbers.ensures.places)))

pub returns-clause-numbers : goal.returns-clause-numbers
returns-clause-numbers c =
    let h : length c.args.cut.now.nodes ≤ c.loop-node.node-index =
    omega (arith, c.loop-node-test.false, ap (λ (t : List Branch). length t) c.branches-node-items.ensures.value) in
    let e : c.of_parts.result.nodes ≡ map (relabelled c.in_ok-numbers.numbers.items) c.args.cut.now.nodes =
    ap (λ (t : TreeData). t.nodes) c.of_parts.ensures ∙ relabelled-all _ _ _ _ h c.loop-node.invariant in
    subst (AllLabels (λ l. l < length c.args.ends.now)) (sym e) (relabelled_labels _ _ _ c.in_ok-numbers.ensures.numbers)

pub returns-clause-below : goal.returns-clause-below
returns-clause-below c =
    let h : length c.args.cut.now.nodes ≤ c.loop-node.node-index =
    omega (arith, c.loop-node-test.false, ap (λ (t : List Branch). length t) c.branches-node-items.ensures.value) in
    let e : c.of_parts.result.nodes ≡ map (relabelled c.in_ok-numbers.numbers.items) c.args.cut.now.nodes =
    ap (λ (t : TreeData). t.nodes) c.of_parts.ensures ∙ relabelled-all _ _ _ _ h c.loop-node.invariant in
    let label : (bits : ℕ) → label_of c.of_parts.result.nodes bits ≡ get_or c.in_ok-numbers.numbers.items (label_of c.args.cut.now.nodes bits) 0 = λ bits.
    label_relabelled c.args.cut.now.width c.in_ok-numbers.numbers.items c.args.cut.now.nodes c.of_parts.result.nodes c.branches-node-items.ensures.known e bits in
    λ bits. subst (λ n. n < length c.args.ends.now) (sym (label bits)) (c.in_ok-numbers.ensures.numbers (label_of c.args.cut.now.nodes bits))

pub returns-clause-places : goal.returns-clause-places
returns-clause-places c =
    let h : length c.args.cut.now.nodes ≤ c.loop-node.node-index =
    omega (arith, c.loop-node-test.false, ap (λ (t : List Branch). length t) c.branches-node-items.ensures.value) in
    let e : c.of_parts.result.nodes ≡ map (relabelled c.in_ok-numbers.numbers.items) c.args.cut.now.nodes =
    ap (λ (t : TreeData). t.nodes) c.of_parts.ensures ∙ relabelled-all _ _ _ _ h c.loop-node.invariant in
    let label : (bits : ℕ) → label_of c.of_parts.result.nodes bits ≡ get_or c.in_ok-numbers.numbers.items (label_of c.args.cut.now.nodes bits) 0 = λ bits.
    label_relabelled c.args.cut.now.width c.in_ok-numbers.numbers.items c.args.cut.now.nodes c.of_parts.result.nodes c.branches-node-items.ensures.known e bits in
    λ bits.
    placed_label c.args.ends.now c.in_ok-numbers.numbers.items (label_of c.args.cut.now.nodes bits) (label_of c.of_parts.result.nodes bits) c.in_ok-numbers.ensures.places (c.requires.known bits) (label bits)
