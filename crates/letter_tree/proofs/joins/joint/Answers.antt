use Rattle.std.proofs.Common.{◌≡◌, ◌<◌, Some, subst, sym}
use Rattle.std.specs.List.{slice_get}
use Rattle.word_core.specs.declared.branches.Branch.TheVariants.{Leaf, Split}
use Rattle.letter_tree.specs.Diagram.{top}
use Rattle.letter_tree.specs.Join.{AreJointly}
use Rattle.letter_tree.proofs.Copies.{read_at}
use Rattle.letter_tree.proofs.Joints.{parts_left, parts_right, parts_both, fork_at, apart_below}
use Rattle.letter_tree.proofs.joins.joint.Goals as goal

pub returns-in-Leaf-Split : goal.returns-in-Leaf-Split
returns-in-Leaf-Split c =
    let ea = read_at _ _ (Leaf 0) _ c.requires.x_in c.in-Leaf-Split.is-0 in
    let eb = read_at _ _ (Leaf 0) _ c.requires.y_in c.in-Leaf-Split.is-1 in
    let k = fork_at _ _ _ _ _ _ c.requires.right eb in
    subst (AreJointly c.args.a.now c.args.b.now c.args.width c.args.x c.args.y) (sym c.right_parts.ensures) (parts_right _ _ _ _ _ _ _ _ c.requires.right eb c.requires.x_in (subst (λ o. c.in-Leaf-Split.signal < top c.args.width o) (sym ea) k.signal_in))

pub returns-in-Split-Leaf : goal.returns-in-Split-Leaf
returns-in-Split-Leaf c =
    let ea = read_at _ _ (Leaf 0) _ c.requires.x_in c.in-Split-Leaf.is-0 in
    let eb = read_at _ _ (Leaf 0) _ c.requires.y_in c.in-Split-Leaf.is-1 in
    let k = fork_at _ _ _ _ _ _ c.requires.left ea in
    subst (AreJointly c.args.a.now c.args.b.now c.args.width c.args.x c.args.y) (sym c.left_parts.ensures) (parts_left _ _ _ _ _ _ _ _ c.requires.left ea c.requires.y_in (subst (λ o. c.in-Split-Leaf.signal < top c.args.width o) (sym eb) k.signal_in))

pub returns-then-signal-other : goal.returns-then-signal-other
returns-then-signal-other c =
    let ea = read_at _ _ (Leaf 0) _ c.requires.x_in c.in-Split-Split.is-0 in
    let eb = read_at _ _ (Leaf 0) _ c.requires.y_in c.in-Split-Split.is-1 in
    let eb' : slice_get c.args.b.now c.args.y ≡ Some (Split c.in-Split-Split.signal c.in-Split-Split.zero c.in-Split-Split.one) =
    subst (λ s. slice_get c.args.b.now c.args.y ≡ Some (Split s c.in-Split-Split.zero c.in-Split-Split.one)) (sym c.if-signal-other.true) eb in
    parts_both _ _ _ _ _ _ _ _ _ _ c.requires.left c.requires.right ea eb'

pub returns-then-signal-other-2 : goal.returns-then-signal-other-2
returns-then-signal-other-2 c =
    let ea = read_at _ _ (Leaf 0) _ c.requires.x_in c.in-Split-Split.is-0 in
    let eb = read_at _ _ (Leaf 0) _ c.requires.y_in c.in-Split-Split.is-1 in
    subst (AreJointly c.args.a.now c.args.b.now c.args.width c.args.x c.args.y) (sym c.left_parts-then-signal-other-2.ensures) (parts_left _ _ _ _ _ _ _ _ c.requires.left ea c.requires.y_in
    (subst (λ o. c.in-Split-Split.signal < top c.args.width o) (sym eb) c.if-signal-other-2.true))

pub returns-else-signal-other-2 : goal.returns-else-signal-other-2
returns-else-signal-other-2 c =
    let ea = read_at _ _ (Leaf 0) _ c.requires.x_in c.in-Split-Split.is-0 in
    let eb = read_at _ _ (Leaf 0) _ c.requires.y_in c.in-Split-Split.is-1 in
    let less : c.in-Split-Split.other < c.in-Split-Split.signal = apart_below _ _ c.if-signal-other.false c.if-signal-other-2.false in
    subst (AreJointly c.args.a.now c.args.b.now c.args.width c.args.x c.args.y) (sym c.right_parts-else-signal-other-2.ensures) (parts_right _ _ _ _ _ _ _ _ c.requires.right eb c.requires.x_in
    (subst (λ o. c.in-Split-Split.other < top c.args.width o) (sym ea) less))
