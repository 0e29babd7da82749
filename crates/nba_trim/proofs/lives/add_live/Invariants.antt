use Rattle.std.proofs.Common.{◌≡◌, true, take}
use Rattle.std.specs.List.{Contains}
use Rattle.nba_trim.specs.Search.{Finds, at}
use Rattle.nba_trim.proofs.lives.add_live.Given as goal

abbrev pub invariant-loop-p : goal.invariant-loop-p
invariant-loop-p l = Finds (λ p. Contains (take l.p-index l.states) p × (at l.live p ≡ true)) l.fn.search l.search
