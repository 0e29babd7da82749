use Rattle.std.proofs.Common.{◌≡◌, ℕ, true, map, length}
use Rattle.witness_check.specs.Levels.{is_in, IsReached}
use Rattle.witness_check.proofs.levels.exceeds.Given as goal

abbrev pub invariant-loop-marks : goal.invariant-loop-marks
invariant-loop-marks l = record {
  same : length l.reached.items ≡ length l.arcs;
  some : (i : ℕ) × (is_in l.reached.items i ≡ true);
  level : (i : ℕ) → (is_in l.reached.items i ≡ true → IsReached (map (λ list. list.items) l.arcs) l._marks i) × (IsReached (map (λ list. list.items) l.arcs) l._marks i → is_in l.reached.items i ≡ true);
}
