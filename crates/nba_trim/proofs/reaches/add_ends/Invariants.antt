use Rattle.std.proofs.Common.{◌≡◌, true, take}
use Rattle.std.specs.List.{Contains}
use Rattle.nba_trim.specs.Search.{Finds, at, ends}
use Rattle.nba_trim.proofs.reaches.add_ends.Given as goal

abbrev pub invariant-loop-edge : goal.invariant-loop-edge
invariant-loop-edge l = Finds (λ p. Contains (ends (take l.edge-index l.edges)) p × (at l.live p ≡ true)) l.fn.search l.search
