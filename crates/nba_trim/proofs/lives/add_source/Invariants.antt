use Rattle.std.proofs.Common.{length, take}
use Rattle.nba_trim.specs.Search.{AreStateLists, AddsSource}
use Rattle.nba_trim.proofs.lives.add_source.Given as goal

abbrev pub invariant-loop-edge : goal.invariant-loop-edge
invariant-loop-edge l = record { states : AreStateLists (length l.fn.before.items) l.before.items; adds : AddsSource l.q (take l.edge-index l.edges) l.fn.before.items l.before.items }
