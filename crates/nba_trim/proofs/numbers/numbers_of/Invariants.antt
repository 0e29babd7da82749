use Rattle.std.proofs.Common.{◌≡◌, length}
use Rattle.nba_trim.proofs.Numbering.{AreGiven}
use Rattle.nba_trim.proofs.numbers.numbers_of.Given as goal

abbrev pub invariant-loop-k : goal.invariant-loop-k
invariant-loop-k l = record { count : length l.numbers.items ≡ length l.reached; given : AreGiven l.numbers.items l.kept l.k }
