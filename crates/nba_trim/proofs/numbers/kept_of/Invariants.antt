use Rattle.nba_trim.proofs.Numbering.{AreBelow}
use Rattle.nba_trim.proofs.numbers.kept_of.Given as goal

abbrev pub invariant-loop-q : goal.invariant-loop-q
invariant-loop-q l = AreBelow l.reached l.q l.kept.items
