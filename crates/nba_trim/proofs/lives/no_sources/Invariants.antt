use Rattle.std.proofs.Common.{◌≡◌, length, [], All}
use Rattle.nba_trim.specs.Search.{AreStates}
use Rattle.nba_trim.proofs.lives.no_sources.Given as goal

abbrev pub invariant-loop-q : goal.invariant-loop-q
invariant-loop-q l = record { count : length l.before.items ≡ l._q; states : All (AreStates l.count) l.before.items; none : All (λ sources. sources ≡ []) l.before.items }
