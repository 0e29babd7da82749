use Rattle.std.proofs.Common.{◌≡◌, drop}
use Rattle.std.specs.Prelude.{bit_or}
use Rattle.cover_sets.specs.Numbers.{or_all}
use Rattle.cover_sets.proofs.number_sets.NumberSet.folded.Given as goal

abbrev pub invariant-loop-i : goal.invariant-loop-i
invariant-loop-i l = bit_or l.bits (or_all (drop l.i l.self.words)) ≡ or_all l.self.words
