use Rattle.std.proofs.Common.{◌≡◌, length, map, take}
use Rattle.cover_sets.specs.Covers.{products}
use Rattle.cover_sets.specs.Union.{AreUnions, HaveSizes, all_consistent, covers_of, union_at}
use Rattle.cover_sets.proofs.reductions.unions_of.Given as goal

abbrev pub invariant-loop-left : goal.invariant-loop-left
invariant-loop-left l =
    AreUnions (length l.xs) (length l.ys) l.unions.items
    × HaveSizes (covers_of l.xs) (covers_of l.ys) l.unions.items
    × (map (union_at (covers_of l.xs) (covers_of l.ys)) l.unions.items ≡ all_consistent l.opposites (products (take l.left (covers_of l.xs)) (covers_of l.ys)))
