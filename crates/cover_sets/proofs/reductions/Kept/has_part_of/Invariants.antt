use Rattle.std.proofs.Common.{◌≡◌, drop}
use Rattle.std.specs.List.{list_any}
use Rattle.cover_sets.specs.Bits.{sets_of}
use Rattle.cover_sets.specs.Covers.{part_of}
use Rattle.cover_sets.specs.Union.{covers_of}
use Rattle.cover_sets.proofs.reductions.Kept.has_part_of.Given as goal

abbrev pub invariant-loop-at : goal.invariant-loop-at
invariant-loop-at l =
    list_any (λ k. part_of k (sets_of l.cover)) (drop l.at (covers_of l.self.covers.items)) ≡ list_any (λ k. part_of k (sets_of l.cover)) (covers_of l.self.covers.items)
