use Rattle.std.proofs.Common.{◌≡◌, ℕ, sym, ap, ◌∙◌, subst}
use Rattle.action_groups.specs.Memo.{IsNoted, notes_of, note_by, note_of}
use Rattle.action_groups.specs.declared.memos.Subtree.{Subtree}
use Rattle.action_groups.proofs.Notes.{noted_each, same_key}
use Rattle.action_groups.proofs.memos.Memo.note.Goals as goal

pub returns : goal.returns
returns c =
    let same : c.in_ok-to_vec.field-0.items ≡ c.args.ways.now = c.in_ok-to_vec.ensures.items_if_clones_equal (λ x y e. e) in
    let pairs : c.in_ok-to_vec-2.field-0.items ≡ c.args.pairs.now = c.in_ok-to_vec-2.ensures.items_if_clones_equal (λ x y e. ap (λ (n : ℕ). (n, y.1)) e.0 ∙ ap (λ (n : ℕ). (x.0, n)) e.1) in
    let tree : Subtree = record { letter = c.args.letter; first = c.args.first; pairs = c.in_ok-to_vec-2.field-0 } in
    let entries = c.self.inside.map.entries in
    let notes = notes_of c.insert.new.self.entries in
    subst (λ ps. IsNoted c.args.self.now notes (note_by c.args.place c.args.ways.now c.args.letter c.args.first ps)) pairs
    (subst (λ old. IsNoted old notes (note_of c.args.place c.args.ways.now tree)) c.self.view_is
    (subst (λ es. IsNoted (notes_of entries) (notes_of es) (note_of c.args.place c.args.ways.now tree)) (sym c.in_ok-insert.ensures.entries)
    (noted_each _ entries (c.args.place, c.in_ok-to_vec.field-0) c.args.ways.now tree same (λ k e. same_key (c.args.place, c.in_ok-to_vec.field-0) k c.args.ways.now same e))))
