use Rattle.std.proofs.Common.{◌≡◌, ◌&&◌, List, take}
use Rattle.std.specs.Prelude.{ℤ}
use Rattle.std.specs.List.{All, AllPairs, list_any}
use Rattle.counter_vec.specs.Counters.{at_or_below}
use Rattle.game_core.specs.Columns.{each_covers}
use Rattle.game_core.specs.Front.{IsApart, IsPiece, under}
use Rattle.game_core.proofs.refinements.refine_classes.Given as goal

abbrev pub invariant-loop-c : goal.invariant-loop-c
invariant-loop-c l =
    All (IsPiece l.f) l.kept.items × AllPairs IsApart l.kept.items
    × ((u : List ℤ) → under l.kept.items u ≡ (at_or_below u l.f && list_any (λ c. each_covers u l.columns c.items) (take l.c l.plan)))
