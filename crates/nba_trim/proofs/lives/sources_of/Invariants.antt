use Rattle.std.proofs.Common.{length}
use Rattle.nba_trim.specs.Search.{AreStateLists, AreSources}
use Rattle.nba_trim.proofs.lives.sources_of.Given as goal

abbrev pub invariant-loop-q : goal.invariant-loop-q
invariant-loop-q l = record { states : AreStateLists (length l.a.states) l.before.items; sources : AreSources l.a l.q l.before.items }
