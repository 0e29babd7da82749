use Rattle.std.proofs.Common.{◌≡◌, drop}
use Rattle.cover_sets.specs.Numbers.{is_part, joined}
use Rattle.cover_sets.proofs.number_sets.NumberSet.is_part_of.Given as goal

abbrev pub invariant-loop-i : goal.invariant-loop-i
invariant-loop-i l = is_part (joined (drop l.i l.self.words)) (joined (drop l.i l.other.words)) ≡ is_part (joined l.self.words) (joined l.other.words)
