use Rattle.std.proofs.Common.{◌≡◌, ◌||◌, List}
use Rattle.std.specs.Prelude.{ℤ}
use Rattle.std.specs.List.{All, AllPairs}
use Rattle.std.specs.Vec.Iter.{into_iter_items}
use Rattle.game_core.specs.Front.{IsApart, IsPiece, under}
use Rattle.game_core.proofs.refinements.add_all.Given as goal

abbrev pub invariant-loop-piece : goal.invariant-loop-piece
invariant-loop-piece l =
    All (IsPiece l.f) l.kept.items × AllPairs IsApart l.kept.items
    × ((u : List ℤ) → (under l.kept.items u || under (into_iter_items l.piece-iterator) u) ≡ (under l.initial.kept.items u || under l.fn.pieces.items u))
