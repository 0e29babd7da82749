use Rattle.std.proofs.Common.{◌≡◌, ◌∙◌, List, false, ap, sym}
use Rattle.std.specs.Prelude.{ℤ}
use Rattle.std.specs.List.{All}
use Rattle.game_core.specs.Front.{IsApart, under}
use Rattle.game_core.proofs.Replacements.{entries_pushed}
use Rattle.game_core.proofs.Unders.{apart_from, under_absorbs}
use Rattle.game_core.proofs.exchanges.put_piece.Goals as goal

pub returns-clause-entries : goal.returns-clause-entries
returns-clause-entries c =
    let vs : List (List ℤ) = c.args.entries.now.vectors.items in
    let missed : under vs c.args.piece ≡ false = ap (λ (xs : List (List ℤ)). under xs c.args.piece) (sym c.deref.ensures.value) ∙ sym c.is_likely_under.ensures ∙ c.if-is_likely_under.false in
    let apart : All (λ e. IsApart e c.args.piece) vs = apart_from c.args.piece vs c.requires.above missed in
    rw c.in_ok-push_entry.ensures.vectors
    (entries_pushed _ _ _ _ _ _ _ _ _ c.requires.entries c.requires.entry c.requires.piece apart
    c.in_ok-push_entry.ensures.pending c.in_ok-push_entry.ensures.notes (c.in_ok-push_entry.ensures.answers c.requires.entries.answers))

pub returns-then-is_likely_under-clause-whole : goal.returns-then-is_likely_under-clause-whole
returns-then-is_likely_under-clause-whole c = λ u.
    under_absorbs u c.args.piece c.args.entries.now.vectors.items
    (ap (λ (xs : List (List ℤ)). under xs c.args.piece) (sym c.deref.ensures.value) ∙ sym c.is_likely_under.ensures ∙ c.if-is_likely_under.true)
