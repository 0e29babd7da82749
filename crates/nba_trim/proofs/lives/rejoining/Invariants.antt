use Rattle.std.proofs.Common.{◌≡◌, ◌-◌, ◌<◌, true, length, get_or, []}
use Rattle.std.specs.List.{Contains}
use Rattle.nba_trim.specs.Search.{at, is_start, Rejoins}
use Rattle.nba_trim.proofs.Finding.{Spread}
use Rattle.nba_trim.proofs.lives.rejoining.Given as goal

abbrev pub invariant-back : goal.invariant-back
invariant-back l =
    Spread (λ p. (p < length l.a.states) × (is_start l.a l.live p ≡ true)) (λ p q. Contains (get_or l.before p []) q × (at l.live q ≡ true)) (Rejoins l.a l.live) (length l.live) l.done l.search

abbrev pub decreases-back : goal.decreases-back
decreases-back l = length l.live - l.done
