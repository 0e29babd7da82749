use Rattle.std.proofs.Common.{◌≡◌, ◌∙◌, ◌||◌, List, ap, sym, subst, vec_len}
use Rattle.std.specs.Prelude.{ℤ}
use Rattle.game_core.specs.Columns.{AreColumns, ColumnData}
use Rattle.std.proofs.lemmas.Result.{on_ok_weaker}
use Rattle.game_core.specs.Front.{under}
use Rattle.game_core.proofs.Greatest.{exchange_keeps, rest_above}
use Rattle.game_core.proofs.Replacements.{entries_removed}
use Rattle.game_core.proofs.exchanges.exchange.Goals as goal

pub put_pieces-requires-clause-pieces : goal.put_pieces-requires-clause-pieces
put_pieces-requires-clause-pieces c = (c.requires.pieces c.take_entry-f.result.0 c.take_entry-f.ensures.entry).below

pub put_pieces-requires-clause-apart : goal.put_pieces-requires-clause-apart
put_pieces-requires-clause-apart c = (c.requires.pieces c.take_entry-f.result.0 c.take_entry-f.ensures.entry).apart

pub put_pieces-requires-clause-above : goal.put_pieces-requires-clause-above
put_pieces-requires-clause-above c =
    rw c.take_entry-f.ensures.vectors
    (rest_above c.args.entries.now.vectors.items c.args.place c.take_entry-f.result.0 c.requires.place c.take_entry-f.ensures.entry c.requires.entries.apart)

pub returns-clause-keeps : goal.returns-clause-keeps
returns-clause-keeps c =
    let vs : List (List ℤ) = c.args.entries.now.vectors.items in
    let f : List ℤ = c.take_entry-f.result.0 in
    on_ok_weaker c.put_pieces.result
    (λ made. exchange_keeps c.args.g.now vs c.put_pieces.new.entries.vectors.items c.args.pieces.items c.args.place f c.requires.place c.take_entry-f.ensures.entry
    (c.requires.pieces f c.take_entry-f.ensures.entry)
    (λ u. made u ∙ ap (λ (rest : List (List ℤ)). under rest u || under c.args.pieces.items u) c.take_entry-f.ensures.vectors))
    c.put_pieces.ensures.whole

pub put_pieces-requires-clause-entries : goal.put_pieces-requires-clause-entries
put_pieces-requires-clause-entries c =
    let n : vec_len c.take_entry-f.result.1.answers ≡ c.args.slots = c.take_entry-f.ensures.note c.args.slots c.requires.entries.answers in
    rw (n, c.take_entry-f.ensures.vectors)
    (entries_removed _ _ _ _ _ _ _ _ c.requires.entries c.requires.place c.take_entry-f.ensures.pending c.take_entry-f.ensures.notes
    (c.take_entry-f.ensures.answers c.args.slots c.requires.entries.answers))

pub returns-clause-columns : goal.returns-clause-columns
returns-clause-columns c =
    let g = c.args.g.now in
    let columns : List ColumnData = c.drop_place.new.columns in
    on_ok_weaker c.put_pieces.result
    (λ keep. keep columns
    (subst (λ (vs : List (List ℤ)). AreColumns g vs columns) (sym c.take_entry-f.ensures.vectors)
    (c.drop_place.ensures g c.args.entries.now.vectors.items c.requires.place c.requires.columns)))
    c.put_pieces.ensures.columns
