use Rattle.std.proofs.Common.{◌≡◌, length, take, All}
use Rattle.word_core.specs.Automaton.{IsEdge, edges_at}
use Rattle.nba_trim.specs.Trimmed.{kept_edges}
use Rattle.nba_trim.proofs.trims.edges_of.Given as goal

abbrev pub invariant-loop-edge : goal.invariant-loop-edge
invariant-loop-edge l = record {
  value : l.edges.items ≡ kept_edges l.numbers.kept (take l.edge-index (edges_at l.a l.q));
  edges : All (IsEdge l.a.signals (length l.numbers.kept)) l.edges.items;
}
