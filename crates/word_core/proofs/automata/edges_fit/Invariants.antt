use Rattle.std.proofs.Common.{ℕ, ◌<◌, List, slice_index_or}
use Rattle.std.specs.List.{All}
use Rattle.word_core.specs.declared.automata.Edge.{Edge}
use Rattle.word_core.specs.Automaton.{IsEdge}
use Rattle.word_core.proofs.automata.edges_fit.Given as goal

abbrev pub invariant-loop-state : goal.invariant-loop-state
invariant-loop-state l = (k : ℕ) (d : List Edge) → k < l.state-index → All (IsEdge l.signals l.count) (slice_index_or l.states k d)
