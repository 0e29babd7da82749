use Rattle.std.proofs.Common.{◌<◌, sym, ◌∙◌, ap, subst, arith}
use Rattle.word_core.specs.declared.branches.Branch.TheVariants.{Leaf, Split}
use Rattle.word_core.specs.Tree.{label_at, LabelHas}
use Rattle.word_core.proofs.TreeLabels.{node_at, split_placed, label_split, label_leaf, side_high, side_low}
use Rattle.word_core.proofs.branches.walk.Goals as goal

pub loop-place-preserved-then-bits-signal-eq1 : goal.loop-place-preserved-then-bits-signal-eq1
loop-place-preserved-then-bits-signal-eq1 c =
    let nodes = c.args.nodes.now in
    let e = node_at nodes c.loop-place.place (Split c.in-Split.signal c.in-Split.low c.in-Split.high) (Leaf 0) c.loop-place.invariant.0 c.in-Split.is in
    let w = split_placed nodes c.requires c.loop-place.place _ _ _ e in (
      omega (arith, w.2, c.loop-place.invariant.0),
      ap (λ p. label_at nodes p c.args.bits) (sym (side_high c.in-Split.signal c.in-Split.low c.in-Split.high c.args.bits c.if-bits-signal-eq1.true))
          ∙ sym (label_split nodes c.requires c.loop-place.place c.args.bits _ _ _ e)
          ∙ c.loop-place.invariant.1,
    )

pub loop-place-smaller : goal.loop-place-smaller
loop-place-smaller c =
    let nodes = c.args.nodes.now in
    let e = node_at nodes c.loop-place.place (Split c.in-Split.signal c.in-Split.low c.in-Split.high) (Leaf 0) c.loop-place.invariant.0 c.in-Split.is in
    (split_placed nodes c.requires c.loop-place.place _ _ _ e).1

pub loop-place-preserved : goal.loop-place-preserved
loop-place-preserved c =
    let nodes = c.args.nodes.now in
    let e = node_at nodes c.loop-place.place (Split c.in-Split.signal c.in-Split.low c.in-Split.high) (Leaf 0) c.loop-place.invariant.0 c.in-Split.is in
    let w = split_placed nodes c.requires c.loop-place.place _ _ _ e in (
      omega (arith, w.1, c.loop-place.invariant.0),
      ap (λ p. label_at nodes p c.args.bits) (sym (side_low c.in-Split.signal c.in-Split.low c.in-Split.high c.args.bits c.if-bits-signal-eq1.false))
          ∙ sym (label_split nodes c.requires c.loop-place.place c.args.bits _ _ _ e)
          ∙ c.loop-place.invariant.1,
    )

pub returns-in-Leaf-clause-label : goal.returns-in-Leaf-clause-label
returns-in-Leaf-clause-label c =
    let nodes = c.args.nodes.now in
    let e = node_at nodes c.loop-place.place (Leaf c.in-Leaf.label) (Leaf 0) c.loop-place.invariant.0 c.in-Leaf.is in
    sym (label_leaf nodes c.loop-place.place c.args.bits c.in-Leaf.label e) ∙ c.loop-place.invariant.1

pub returns-in-Leaf-clause-below : goal.returns-in-Leaf-clause-below
returns-in-Leaf-clause-below c = λ n all.
    let nodes = c.args.nodes.now in
    let e = node_at nodes c.loop-place.place (Leaf c.in-Leaf.label) (Leaf 0) c.loop-place.invariant.0 c.in-Leaf.is in
    subst (LabelHas (λ l. l < n)) e (all c.loop-place.place)

pub overflow_shr-bits : goal.overflow_shr-bits
overflow_shr-bits c =
    let nodes = c.args.nodes.now in
    let e = node_at nodes c.loop-place.place (Split c.in-Split.signal c.in-Split.low c.in-Split.high) (Leaf 0) c.loop-place.invariant.0 c.in-Split.is in
    (split_placed nodes c.requires c.loop-place.place _ _ _ e).0

pub loop-place-smaller-then-bits-signal-eq1 : goal.loop-place-smaller-then-bits-signal-eq1
loop-place-smaller-then-bits-signal-eq1 c =
    let nodes = c.args.nodes.now in
    let e = node_at nodes c.loop-place.place (Split c.in-Split.signal c.in-Split.low c.in-Split.high) (Leaf 0) c.loop-place.invariant.0 c.in-Split.is in
    (split_placed nodes c.requires c.loop-place.place _ _ _ e).2
