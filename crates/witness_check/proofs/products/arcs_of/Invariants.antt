use Rattle.std.proofs.Common.{◌≡◌, ℕ, ◌<◌, length, take}
use Rattle.std.specs.Prelude.{slice_get, Some}
use Rattle.std.specs.List.{All, Contains}
use Rattle.word_core.specs.declared.automata.Edge.{Edge}
use Rattle.word_core.specs.declared.machines.Line.{Line}
use Rattle.word_core.specs.Automaton.{edges_at}
use Rattle.word_core.specs.Machine.{lines_at}
use Rattle.witness_check.specs.Product.{IsNode, IsTaken, IsArc, HasArc, Extends}
use Rattle.witness_check.proofs.products.arcs_of.Given as goal

abbrev pub invariant-loop-number : goal.invariant-loop-number
invariant-loop-number l = record {
  extends : Extends l.fn.nodes.keys l.nodes.keys;
  ranged : All (IsNode (length l.m.states) (length l.a.states)) l.nodes.keys;
  sound : All (IsArc l.a l.m l.nodes.keys l.fn.node) l.list.items;
  whole : (k : ℕ) (y : Line) (e : Edge) → k < l.number → slice_get (lines_at l.m l.fn.node.state) k ≡ Some y → Contains (edges_at l.a l.fn.node.place) e → IsTaken l.m e y (take k (lines_at l.m l.fn.node.state)) → HasArc l.nodes.keys l.list.items (record { state = y.next; place = e.next }) e.marked;
}
