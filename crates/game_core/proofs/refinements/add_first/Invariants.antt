use Rattle.std.proofs.Common.{◌≡◌, ◌&&◌, ◌||◌, List, take}
use Rattle.std.specs.Prelude.{ℤ}
use Rattle.std.specs.List.{All, AllPairs}
use Rattle.counter_vec.specs.Counters.{at_or_below}
use Rattle.game_core.specs.Flat.{picked}
use Rattle.game_core.specs.Front.{IsApart, IsPiece, under}
use Rattle.game_core.proofs.refinements.add_first.Given as goal

abbrev pub invariant-loop-j : goal.invariant-loop-j
invariant-loop-j l =
    All (IsPiece l.f) l.kept.items × AllPairs IsApart l.kept.items
    × ((u : List ℤ) → under l.kept.items u ≡ (under l.initial.kept.items u || (at_or_below u l.f && under (take l.j (picked l.column.items l.places)) u)))
