use Rattle.std.proofs.Common.{◌≡◌, length, map, take, All}
use Rattle.word_core.specs.Automaton.{IsEdge, edges_at}
use Rattle.nba_trim.specs.Trimmed.{kept_edges}
use Rattle.nba_trim.proofs.trims.kept_states.Given as goal

abbrev pub invariant-loop-q : goal.invariant-loop-q
invariant-loop-q l = record {
  value : l.states.items ≡ map (λ q. kept_edges l.numbers.kept (edges_at l.a q)) (take l.q-index l.numbers.kept);
  edges : All (All (IsEdge l.a.signals (length l.numbers.kept))) l.states.items;
}
