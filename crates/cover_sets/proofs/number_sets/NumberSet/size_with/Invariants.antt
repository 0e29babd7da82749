use Rattle.std.proofs.Common.{◌≡◌, ◌+◌, ◌*◌, ◌≤◌, drop}
use Rattle.std.specs.Prelude.{bit_or}
use Rattle.std.specs.Int.RustNames.{count_ones}
use Rattle.cover_sets.specs.Numbers.{joined}
use Rattle.cover_sets.proofs.number_sets.NumberSet.size_with.Given as goal

abbrev pub invariant-loop-i : goal.invariant-loop-i
invariant-loop-i l =
    (l.size + count_ones (bit_or (joined (drop l.i l.self.words)) (joined (drop l.i l.other.words)))
    ≡ count_ones (bit_or (joined l.self.words) (joined l.other.words)))
    × (l.size ≤ 64 * l.i)
