use Rattle.std.proofs.Common.{◌≡◌, length, map, take}
use Rattle.std.specs.List.{All}
use Rattle.word_core.specs.Automaton.{IsEdge, edges_at}
use Rattle.nba_quotient.specs.Ways.{to_class}
use Rattle.nba_quotient.proofs.quotients.class_states.Given as goal

abbrev pub invariant-loop-state : goal.invariant-loop-state
invariant-loop-state l =
    (length l.states.items ≡ l.state-index) × All (All (IsEdge l.a.signals (length l.classes.leasts.items))) l.states.items
    × (l.states.items ≡ map (λ s. map (to_class l.classes.of.items) (edges_at l.a s)) (take l.state-index l.classes.leasts.items))
