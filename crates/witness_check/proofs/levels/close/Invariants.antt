use Rattle.std.proofs.Common.{◌≡◌, ℕ, ◌<◌, true, map, length}
use Rattle.std.specs.Prelude.{slice_get, Some}
use Rattle.std.specs.List.{Contains}
use Rattle.witness_check.specs.declared.products.Arc.{Arc}
use Rattle.witness_check.specs.Levels.{is_in, arcs_at, Closed, IsListed}
use Rattle.witness_check.proofs.levels.close.Given as goal

abbrev pub invariant-loop-at : goal.invariant-loop-at
invariant-loop-at l = record {
  same : length l.reached.items ≡ length l.arcs;
  listed : IsListed l.reached.items l.found.items;
  kept : (i : ℕ) → is_in l.fn.reached.items i ≡ true → is_in l.reached.items i ≡ true;
  sound : (i : ℕ) → is_in l.reached.items i ≡ true → Closed (map (λ list. list.items) l.arcs) l.fn.reached.items i;
  done : (k node : ℕ) → k < l.at → slice_get l.found.items k ≡ Some node → (arc : Arc) → Contains (arcs_at (map (λ list. list.items) l.arcs) node) arc → is_in l.reached.items arc.to ≡ true;
}
