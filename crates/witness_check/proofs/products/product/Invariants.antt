use Rattle.std.proofs.Common.{◌≡◌, ℕ, ◌<◌, ◌≤◌, [], map, length, slice_index_or}
use Rattle.std.specs.Prelude.{slice_get, Some}
use Rattle.std.specs.List.{All}
use Rattle.witness_check.specs.declared.products.Node.{Node}
use Rattle.witness_check.specs.Product.{IsNode, AreArcs}
use Rattle.witness_check.proofs.products.product.Given as goal

abbrev pub invariant-loop-at : goal.invariant-loop-at
invariant-loop-at l = record {
  counted : length l.arcs.items ≡ l.at;
  few : l.at ≤ length l.nodes.keys;
  first : slice_get l.nodes.keys 0 ≡ Some (record { state = 0; place = l.init });
  ranged : All (IsNode (length l.m.states) (length l.a.states)) l.nodes.keys;
  each : (i : ℕ) (n : Node) → i < l.at → slice_get l.nodes.keys i ≡ Some n → AreArcs l.a l.m l.nodes.keys n (slice_index_or (map (λ list. list.items) l.arcs.items) i []);
}
