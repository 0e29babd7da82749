use Rattle.std.proofs.Common.{◌≡◌, true, sym, ap, ◌∙◌, rules}
use Rattle.std.proofs.lemmas.Slice.Eq.{slice_eq-Decides}
use Rattle.letter_tree.specs.Diagram.{TreeData}
use Rattle.letter_tree.specs.Function.{AreOneFunction}
use Rattle.letter_tree.proofs.Branches.{branch_decides, same_tree}
use Rattle.letter_tree.proofs.OneTree.{one_data, same_function}
use Rattle.letter_tree.proofs.joins.equal.Goals as goal

pub returns-then-width-clause-tree : goal.returns-then-width-clause-tree
returns-then-width-clause-tree c =
    let d = slice_eq-Decides branch_decides _ _ _ c.eq.ensures in (
      λ h. same_tree _ _ (sym c.width.ensures.width ∙ c.if-width.true ∙ c.width-2.ensures.width)
          (sym c.branches.ensures.value ∙ d.0 (search rules) ∙ c.branches-then-width.ensures.value),
      λ h.
          let e : c.eq.result ≡ true = d.1 (c.branches.ensures.value ∙ ap (λ (t : TreeData). t.nodes) h ∙ sym c.branches-then-width.ensures.value) in
          search rules,
    )

pub returns-then-width-clause-function : goal.returns-then-width-clause-function
returns-then-width-clause-function c =
    let w : c.args.a.now.width ≡ c.args.b.now.width = sym c.width.ensures.width ∙ c.if-width.true ∙ c.width-2.ensures.width in
    let d = slice_eq-Decides branch_decides _ _ _ c.eq.ensures in
    let one : AreOneFunction c.args.a.now c.args.b.now → c.args.a.now ≡ c.args.b.now = one_data _ _ c.branches.ensures.known c.branches-then-width.ensures.known in (
      λ h. same_function _ _ (same_tree _ _ w (sym c.branches.ensures.value ∙ d.0 (search rules) ∙ c.branches-then-width.ensures.value)),
      λ f.
          let e : c.eq.result ≡ true = d.1 (c.branches.ensures.value ∙ ap (λ (t : TreeData). t.nodes) (one f) ∙ sym c.branches-then-width.ensures.value) in
          search rules,
    )
