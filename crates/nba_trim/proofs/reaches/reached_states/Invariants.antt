use Rattle.std.proofs.Common.{◌≡◌, ◌-◌, true, length, Some}
use Rattle.std.specs.List.{Contains}
use Rattle.word_core.specs.Automaton.{edges_at}
use Rattle.nba_trim.specs.Search.{at, ends, Reached}
use Rattle.nba_trim.proofs.Finding.{Spread}
use Rattle.nba_trim.proofs.reaches.reached_states.Given as goal

abbrev pub invariant-on : goal.invariant-on
invariant-on l =
    Spread (λ p. (l.a.init ≡ Some p) × (at l.live p ≡ true)) (λ p q. Contains (ends (edges_at l.a p)) q × (at l.live q ≡ true)) (Reached l.a l.live) (length l.live) l.done l.search

abbrev pub decreases-on : goal.decreases-on
decreases-on l = length l.live - l.done
