use Rattle.std.proofs.Common.{◌≡◌, ◌<◌, ◌≤◌, ap, ◌∙◌, ◌/◌, ◌^◌, ℕ, List, length, sym, subst}
use Rattle.std.specs.List.{All}
use Rattle.word_core.specs.Tree.{label_at, label_of, AllLabels}
use Rattle.letter_tree.specs.Diagram.{TreeData, IsRooted, HasLeaf}
use Rattle.letter_tree.specs.Cut.{end_at, rest_label, IsEnd, ArePlaced, IsSplit, AreNumbered}
use Rattle.letter_tree.specs.Occurrence.{AreLeasts}
use Rattle.letter_tree.proofs.CutNodes.{ends_of, ends_below, front_labels}
use Rattle.word_core.specs.declared.branches.Branch.{Branch}
use Rattle.letter_tree.proofs.Rests.{known_ends, split_exact, numbered_exact}
use Rattle.letter_tree.proofs.cuts.split.Goals as goal

pub rests-requires-clause-ends : goal.rests-requires-clause-ends
rests-requires-clause-ends c =
    let leaves : All (λ (p : ℕ × ℕ). HasLeaf c.in_ok-front.field-0.items p.1) c.in_ok-ends.ends.items =
    subst (λ (t : TreeData). All (λ (p : ℕ × ℕ). HasLeaf t.nodes p.1) c.in_ok-ends.ends.items) c.of_parts-cut.ensures c.in_ok-ends.ensures.leaves in
    subst (λ (l : List (ℕ × ℕ)). All (λ (p : ℕ × ℕ). IsEnd c.branches-nodes.result.now c.width-whole.result c.args.width p.1) l) (sym c.deref.ensures.value)
    (ends_of _ _ _ _ _ c.in_ok-front.ensures leaves)

pub numbered-requires-clause-labels : goal.numbered-requires-clause-labels
numbered-requires-clause-labels c =
    subst (λ (t : TreeData). AllLabels (λ l. l < length c.branches-nodes.result.now) t.nodes) (sym c.of_parts-cut.ensures) (front_labels _ _ _ _ c.in_ok-front.ensures)

pub numbered-requires-clause-ends : goal.numbered-requires-clause-ends
numbered-requires-clause-ends c =
    let leaves : All (λ (p : ℕ × ℕ). HasLeaf c.in_ok-front.field-0.items p.1) c.in_ok-ends.ends.items =
    subst (λ (t : TreeData). All (λ (p : ℕ × ℕ). HasLeaf t.nodes p.1) c.in_ok-ends.ends.items) c.of_parts-cut.ensures c.in_ok-ends.ensures.leaves in
    subst (λ (l : List (ℕ × ℕ)). All (λ (p : ℕ × ℕ). p.1 < length c.branches-nodes.result.now) l) (sym c.deref-2.ensures.value)
    (ends_below _ _ _ _ (ends_of _ _ _ _ _ c.in_ok-front.ensures leaves))

pub numbered-requires-clause-known : goal.numbered-requires-clause-known
numbered-requires-clause-known c =
    let Known : List (ℕ × ℕ) → Type 0 = λ l. (bits : ℕ) → (i : ℕ) × (i < length l) × (end_at l i ≡ label_of c.of_parts-cut.result.nodes bits) in
    subst Known (sym c.deref-2.ensures.value) (known_ends c.of_parts-cut.result.width c.of_parts-cut.result.nodes c.in_ok-ends.ends.items c.in_ok-ends.ensures.exact)

pub returns-clause-label : goal.returns-clause-label
returns-clause-label c =
    let nodes = c.branches-nodes.result.now in
    let out = c.in_ok-front.field-0.items in
    let ends = c.in_ok-ends.ends.items in
    let front = c.in_ok-numbered.field-0.nodes in
    let rests = c.in_ok-rests.rests.items in
    let placed : ArePlaced ends out front =
    subst (λ (l : List (ℕ × ℕ)). ArePlaced l out front) c.deref-2.ensures.value (subst (λ (t : TreeData). ArePlaced c.deref-2.result.now t.nodes front) c.of_parts-cut.ensures c.in_ok-numbered.ensures.places) in
    let below : (bits : ℕ) → label_of front bits < length ends = λ bits. subst (λ (l : List (ℕ × ℕ)). label_of front bits < length l) c.deref-2.ensures.value (c.in_ok-numbered.ensures.below bits) in
    let Each : List (ℕ × ℕ) → Type 0 = λ l. (i bits : ℕ) → i < length l → rest_label rests i (bits / 2 ^ c.args.width) ≡ label_at nodes (end_at l i) bits in
    let each : Each ends = subst Each c.deref.ensures.value c.in_ok-rests.ensures.each in
    subst (λ (n : List Branch). IsSplit c.args.width n front rests) c.branches-nodes.ensures.value
    (split_exact nodes out front c.width-whole.result c.args.width ends rests c.in_ok-front.ensures placed below each)

pub returns-clause-order : goal.returns-clause-order
returns-clause-order c =
    let nodes = c.branches-nodes.result.now in
    let whole : ℕ = c.width-whole.result in
    let out = c.in_ok-front.field-0.items in
    let ends = c.in_ok-ends.ends.items in
    let front = c.in_ok-numbered.field-0.nodes in
    let rests = c.in_ok-rests.rests.items in
    let rooted : IsRooted whole nodes =
    subst (λ w. IsRooted w nodes) (sym c.width-whole.ensures.width) (subst (IsRooted c.args.t.now.width) (sym c.branches-nodes.ensures.value) c.branches-nodes.ensures.known) in
    let leaves : All (λ (p : ℕ × ℕ). HasLeaf out p.1) ends =
    subst (λ (t : TreeData). All (λ (p : ℕ × ℕ). HasLeaf t.nodes p.1) ends) c.of_parts-cut.ensures c.in_ok-ends.ensures.leaves in
    let are : All (λ (p : ℕ × ℕ). IsEnd nodes whole c.args.width p.1) ends = ends_of whole c.args.width nodes out ends c.in_ok-front.ensures leaves in
    let leasts : AreLeasts c.args.width out ends = subst (λ (t : TreeData). AreLeasts t.width t.nodes ends) c.of_parts-cut.ensures c.in_ok-ends.ensures.exact in
    let placed : ArePlaced ends out front =
    subst (λ (l : List (ℕ × ℕ)). ArePlaced l out front) c.deref-2.ensures.value (subst (λ (t : TreeData). ArePlaced c.deref-2.result.now t.nodes front) c.of_parts-cut.ensures c.in_ok-numbered.ensures.places) in
    let below : (bits : ℕ) → label_of front bits < length ends = λ bits. subst (λ (l : List (ℕ × ℕ)). label_of front bits < length l) c.deref-2.ensures.value (c.in_ok-numbered.ensures.below bits) in
    let Each : List (ℕ × ℕ) → Type 0 = λ l. (i bits : ℕ) → i < length l → rest_label rests i (bits / 2 ^ c.args.width) ≡ label_at nodes (end_at l i) bits in
    let each : Each ends = subst Each c.deref.ensures.value c.in_ok-rests.ensures.each in
    let count : length rests ≡ length ends = c.in_ok-rests.ensures.count ∙ ap (λ (l : List (ℕ × ℕ)). length l) c.deref.ensures.value in
    let narrow : c.args.width ≤ whole = subst (λ w. c.args.width ≤ w) (sym c.width-whole.ensures.width) c.requires in
    subst (λ w. AreNumbered w c.args.width front rests) c.width-whole.ensures.width
    (numbered_exact nodes out front whole c.args.width ends rests rooted narrow are leasts placed below count each)
