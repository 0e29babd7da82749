use Rattle.cover_sets.proofs.Words.{Joining}
use Rattle.cover_sets.proofs.number_sets.NumberSet.join.Given as goal

abbrev pub invariant-loop-i : goal.invariant-loop-i
invariant-loop-i l = Joining l.self.words l.other.words l.words l.i
