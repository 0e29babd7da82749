use Rattle.std.proofs.Common.{◌≡◌, ℕ, refl, sym, ap, ◌∙◌, subst}
use Rattle.std.specs.List.{Contains}
use Rattle.std.proofs.lemmas.List.Elements.{same_from_all_zip}
use Rattle.action_groups.specs.Memo.{note_of}
use Rattle.action_groups.specs.declared.memos.Subtree.{Subtree}
use Rattle.action_groups.proofs.Notes.{noted_there, same_key}
use Rattle.action_groups.proofs.memos.Memo.get.Goals as goal

pub returns : goal.returns
returns c =
    let tree : Subtree = c.in-Some.tree.now in
    let copy : Subtree = record { letter = tree.letter; first = tree.first; pairs = c.in_ok-clone.field-0 } in
    let same : c.in_ok-to_vec.field-0.items ≡ c.args.ways.now = c.in_ok-to_vec.ensures.items_if_clones_equal (λ x y e. e) in
    let pairs : copy.pairs.items ≡ tree.pairs.items =
    same_from_all_zip _ _ _ c.in_ok-clone.ensures.cases.0 (λ x y e. ap (λ (n : ℕ). (n, y.1)) e.0 ∙ ap (λ (n : ℕ). (x.0, n)) e.1) in
    subst (λ notes. Contains notes (note_of c.args.place c.args.ways.now copy)) c.self.view_is
    (noted_there _ c.self.inside.map.entries c.args.place c.args.ways.now tree copy (λ k e. same_key (c.args.place, c.in_ok-to_vec.field-0) k c.args.ways.now same e) c.in-Some.ensures.value refl refl (sym pairs))
