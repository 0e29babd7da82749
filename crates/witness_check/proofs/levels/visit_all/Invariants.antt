use Rattle.std.proofs.Common.{◌≡◌, ℕ, ◌<◌, ◌≤◌, ◌⊎◌, true, length, take}
use Rattle.std.specs.Prelude.{slice_get, Some}
use Rattle.std.specs.List.{Contains}
use Rattle.witness_check.specs.declared.products.Arc.{Arc}
use Rattle.witness_check.specs.Levels.{is_in, IsAsked, IsListed}
use Rattle.witness_check.proofs.levels.visit_all.Given as goal

abbrev pub invariant-loop-arc : goal.invariant-loop-arc
invariant-loop-arc l = record {
  same : length l.reached.items ≡ length l.fn.reached.items;
  listed : IsListed l.reached.items l.found.items;
  kept : (i : ℕ) → is_in l.fn.reached.items i ≡ true → is_in l.reached.items i ≡ true;
  whole : (k : ℕ) (arc : Arc) → k < l.arc-index → slice_get l.arcs k ≡ Some arc → IsAsked l.only_marked arc → is_in l.reached.items arc.to ≡ true;
  sound : (i : ℕ) → is_in l.reached.items i ≡ true → (is_in l.fn.reached.items i ≡ true) ⊎ ((arc : Arc) × Contains l.arcs arc × IsAsked l.only_marked arc × (i ≡ arc.to));
  order : take (length l.fn.found.items) l.found.items ≡ l.fn.found.items;
  longer : length l.fn.found.items ≤ length l.found.items;
}
