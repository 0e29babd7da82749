use Rattle.std.proofs.Common.{take}
use Rattle.word_core.specs.Automaton.{edges_at}
use Rattle.nba_quotient.specs.Ways.{AreWaysOf}
use Rattle.nba_quotient.proofs.ways.all_ways.Given as goal

abbrev pub invariant-loop-edge : goal.invariant-loop-edge
invariant-loop-edge l = AreWaysOf l.of (take l.edge-index (edges_at l.a l.state)) l.ways.items
