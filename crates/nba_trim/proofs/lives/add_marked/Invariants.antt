use Rattle.std.proofs.Common.{◌≡◌, ◌<◌, true}
use Rattle.nba_trim.specs.Search.{Finds, is_start}
use Rattle.nba_trim.proofs.lives.add_marked.Given as goal

abbrev pub invariant-loop-q : goal.invariant-loop-q
invariant-loop-q l = Finds (λ p. (p < l.q) × (is_start l.a l.live p ≡ true)) l.fn.search l.search
