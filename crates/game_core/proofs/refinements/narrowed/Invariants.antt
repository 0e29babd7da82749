use Rattle.std.proofs.Common.{◌≡◌, ◌&&◌, List, take}
use Rattle.std.specs.Prelude.{ℤ}
use Rattle.std.specs.List.{All, AllPairs}
use Rattle.game_core.specs.Front.{IsApart, IsPiece, under}
use Rattle.game_core.proofs.refinements.narrowed.Given as goal

abbrev pub invariant-loop-i : goal.invariant-loop-i
invariant-loop-i l =
    All (IsPiece l.f) l.kept.items × AllPairs IsApart l.kept.items
    × ((u : List ℤ) → under l.kept.items u ≡ (under (take l.i l.pieces) u && under l.column.items u))
