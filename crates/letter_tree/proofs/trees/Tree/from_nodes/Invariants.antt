use Rattle.std.proofs.Common.{◌≡◌, length}
use Rattle.letter_tree.specs.Diagram.{IsDiagram}
use Rattle.letter_tree.specs.Listed.{IsTaken}
use Rattle.letter_tree.proofs.trees.Tree.from_nodes.Given as goal

abbrev pub invariant-loop-node : goal.invariant-loop-node
invariant-loop-node l = record {
  count : length l.places.items ≡ l.node-index;
  width : l.table.width ≡ l.width;
  valid : IsDiagram l.table.width l.table.nodes;
  taken : IsTaken l.table l.nodes l.places.items;
}
