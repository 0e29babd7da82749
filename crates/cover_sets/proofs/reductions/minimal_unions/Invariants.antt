use Rattle.std.proofs.Common.{◌≡◌, ◌≤◌, [], length, map, drop}
use Rattle.cover_sets.specs.Bits.{signature_of}
use Rattle.cover_sets.specs.Union.{covers_of, kept_from, union_at}
use Rattle.cover_sets.proofs.reductions.minimal_unions.Given as goal

abbrev pub invariant-loop-union : goal.invariant-loop-union
invariant-loop-union l =
    (length l.kept.covers.items ≤ 1024)
    × (l.kept.signatures.items ≡ map signature_of l.kept.covers.items)
    × (kept_from (covers_of l.kept.covers.items) (drop l.union-index (map (union_at (covers_of l.xs) (covers_of l.ys)) l.union-items))
    ≡ kept_from [] (map (union_at (covers_of l.xs) (covers_of l.ys)) l.union-items))
