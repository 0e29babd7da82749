use Rattle.std.proofs.Common.{◌≡◌, ℕ, ◌<◌, Bool, length}
use Rattle.std.specs.Prelude.{slice_get, Some}
use Rattle.std.specs.List.{All}
use Rattle.word_core.specs.declared.automata.Edge.{Edge}
use Rattle.word_core.specs.Automaton.{edges_at}
use Rattle.witness_check.specs.declared.products.Node.{Node}
use Rattle.witness_check.specs.Product.{IsNode, IsTaken, IsArc, HasArc, Extends}
use Rattle.witness_check.proofs.products.push_arcs.Given as goal

abbrev pub invariant-loop-edge : goal.invariant-loop-edge
invariant-loop-edge l = record {
  extends : Extends l.fn.nodes.keys l.nodes.keys;
  ranged : All (IsNode (length l.m.states) (length l.a.states)) l.nodes.keys;
  sound : All (IsArc l.a l.m l.fn.nodes.keys l.fn.node) l.fn.list.items → All (IsArc l.a l.m l.nodes.keys l.fn.node) l.list.items;
  kept : (n : Node) (marked : Bool) → HasArc l.fn.nodes.keys l.fn.list.items n marked → HasArc l.nodes.keys l.list.items n marked;
  whole : (k : ℕ) (e : Edge) → k < l.edge-index → slice_get (edges_at l.a l.fn.node.place) k ≡ Some e → IsTaken l.m e l.line l.earlier → HasArc l.nodes.keys l.list.items (record { state = l.line.next; place = e.next }) e.marked;
}
