use Rattle.std.proofs.Common.{◌≡◌, ◌&&◌, List, take}
use Rattle.std.specs.Prelude.{ℤ}
use Rattle.std.specs.List.{All, AllPairs}
use Rattle.counter_vec.specs.Counters.{at_or_below}
use Rattle.game_core.specs.Columns.{column_at, each_covers}
use Rattle.game_core.specs.Front.{IsApart, IsPiece, under}
use Rattle.game_core.proofs.refinements.refine_class.Given as goal

abbrev pub invariant-loop-i : goal.invariant-loop-i
invariant-loop-i l =
    All (IsPiece l.f) l.pieces.items × AllPairs IsApart l.pieces.items
    × ((u : List ℤ) → under l.pieces.items u ≡ ((at_or_below u l.f && under (column_at l.columns l.failing) u) && each_covers u l.columns (take l.i l.options)))
