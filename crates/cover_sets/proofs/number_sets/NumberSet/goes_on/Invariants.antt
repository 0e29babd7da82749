use Rattle.std.proofs.Common.{◌≡◌, ℕ, ◌<◌, get_or}
use Rattle.cover_sets.proofs.number_sets.NumberSet.goes_on.Given as goal

abbrev pub invariant-loop-k : goal.invariant-loop-k
invariant-loop-k l = (j : ℕ) → l.i < j → j < l.k → get_or l.self.words j 0 ≡ 0
