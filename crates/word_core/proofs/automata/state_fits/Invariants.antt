use Rattle.std.proofs.Common.{ℕ, ◌<◌, slice_index_or}
use Rattle.word_core.specs.declared.automata.Edge.{Edge}
use Rattle.word_core.specs.Automaton.{IsEdge}
use Rattle.word_core.proofs.automata.state_fits.Given as goal

abbrev pub invariant-loop-edge : goal.invariant-loop-edge
invariant-loop-edge l = (k : ℕ) (d : Edge) → k < l.edge-index → IsEdge l.signals l.count (slice_index_or l.edges k d)
