use Rattle.std.proofs.Common.{◌≡◌, ℕ, not, nat_eq, take}
use Rattle.std.specs.Prelude.{bit_and}
use Rattle.cover_sets.specs.Bits.{set_of}
use Rattle.cover_sets.specs.Numbers.{AreWords, joined}
use Rattle.cover_sets.specs.Union.{clashes}
use Rattle.cover_sets.proofs.reductions.against.Given as goal

abbrev pub invariant-loop-positive : goal.invariant-loop-positive
invariant-loop-positive l =
    AreWords l.against.0
    × ((y : ℕ) → nat_eq (bit_and (joined l.against.0) y) 0 ≡ not (clashes (take l.positive-index l.opposites) (set_of l.literals) y))
