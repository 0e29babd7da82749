use Rattle.std.proofs.Common.{◌≡◌, ℕ, ◌<◌, true, map, length}
use Rattle.std.specs.List.{Contains}
use Rattle.witness_check.specs.declared.products.Arc.{Arc}
use Rattle.witness_check.specs.Levels.{is_in, arcs_at, IsListed, IsMarkedEnd}
use Rattle.witness_check.proofs.levels.next_level.Given as goal

abbrev pub invariant-loop-node : goal.invariant-loop-node
invariant-loop-node l = record {
  same : length l.reached.items ≡ length l.arcs;
  listed : IsListed l.reached.items l.found.items;
  sound : (i : ℕ) → is_in l.reached.items i ≡ true → IsMarkedEnd (map (λ list. list.items) l.arcs) l.from i;
  whole : (j : ℕ) (arc : Arc) → j < l.node → is_in l.from j ≡ true → Contains (arcs_at (map (λ list. list.items) l.arcs) j) arc → arc.marked ≡ true → is_in l.reached.items arc.to ≡ true;
}
