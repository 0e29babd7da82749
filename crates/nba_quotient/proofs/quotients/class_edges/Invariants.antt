use Rattle.std.specs.List.{All}
use Rattle.std.proofs.Common.{◌≡◌, length, map, take}
use Rattle.word_core.specs.Automaton.{IsEdge, edges_at}
use Rattle.nba_quotient.specs.Ways.{to_class}
use Rattle.nba_quotient.proofs.quotients.class_edges.Given as goal

abbrev pub invariant-loop-edge : goal.invariant-loop-edge
invariant-loop-edge l =
    All (IsEdge l.a.signals (length l.classes.leasts.items)) l.edges.items
    × (l.edges.items ≡ map (to_class l.classes.of.items) (take l.edge-index (edges_at l.a l.state)))
