use Rattle.std.proofs.Common.{◌≡◌, false, take}
use Rattle.nba_trim.specs.Search.{has_mark}
use Rattle.nba_trim.proofs.lives.has_marked.Given as goal

abbrev pub invariant-loop-edge : goal.invariant-loop-edge
invariant-loop-edge l = has_mark l.live (take l.edge-index l.edges) ≡ false
