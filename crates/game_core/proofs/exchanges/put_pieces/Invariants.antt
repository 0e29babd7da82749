use Rattle.std.proofs.Common.{◌≡◌, ◌||◌, true, List, ◌∷◌, vec_len}
use Rattle.std.specs.Prelude.{ℤ}
use Rattle.game_core.specs.Columns.{AreColumns, ColumnData}
use Rattle.std.specs.List.{All, AllPairs}
use Rattle.std.specs.Vec.Iter.{into_iter_items}
use Rattle.game_core.specs.Entries.{AreEntries}
use Rattle.game_core.specs.Front.{IsApart, Misses, under}
use Rattle.game_core.proofs.exchanges.put_pieces.Given as goal

abbrev pub invariant-loop-piece : goal.invariant-loop-piece
invariant-loop-piece l =
    AreEntries l.g (vec_len l.note.answers) l.entries.vectors.items l.entries.pending.items l.entries.notes.items
    × Misses l.f l.entries.vectors.items
    × ((columns : List ColumnData) → AreColumns l.g l.initial.entries.vectors.items columns → AreColumns l.g l.entries.vectors.items columns)
    × All (λ e. under (l.f ∷ l.initial.entries.vectors.items) e ≡ true) l.entries.vectors.items
    × AllPairs IsApart (into_iter_items l.piece-iterator)
    × All (λ e. Misses e (into_iter_items l.piece-iterator)) l.entries.vectors.items
    × ((u : List ℤ) → (under l.entries.vectors.items u || under (into_iter_items l.piece-iterator) u) ≡ (under l.initial.entries.vectors.items u || under l.fn.pieces.items u))
