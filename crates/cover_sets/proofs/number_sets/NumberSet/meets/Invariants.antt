use Rattle.std.proofs.Common.{◌≡◌, cond, false, nat_eq, drop}
use Rattle.std.specs.Prelude.{bit_and}
use Rattle.cover_sets.specs.Numbers.{joined}
use Rattle.cover_sets.proofs.number_sets.NumberSet.meets.Given as goal

abbrev pub invariant-loop-i : goal.invariant-loop-i
invariant-loop-i l =
    cond (nat_eq l.shared 0) (nat_eq (bit_and (joined (drop l.i l.self.words)) (joined (drop l.i l.other.words))) 0) false ≡ nat_eq (bit_and (joined l.self.words) (joined l.other.words)) 0
