use Rattle.std.proofs.Common.{◌≡◌, length, All}
use Rattle.word_core.specs.Lasso.{size}
use Rattle.ltl_form.specs.NodeTrees.{node_trees}
use Rattle.ltl_form.specs.Rows.{AreRows}
use Rattle.ltl_form.proofs.meanings.holds.Given as goal

abbrev pub invariant-loop-node : goal.invariant-loop-node
invariant-loop-node l = record {
  count : length l.rows.items ≡ l.node-index;
  long : All (λ row. length row.items ≡ size l.w) l.rows.items;
  rows : AreRows l.w (node_trees l.f.nodes) l.rows.items;
}
