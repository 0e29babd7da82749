use Rattle.std.proofs.Common.{ℕ, ◌≡◌, ◌<◌, ◌≤◌, true}
use Rattle.std.specs.Prelude.{◌≤ℤ◌, ◌↔◌}
use Rattle.lane_ops.specs.Lanes.{lane}
use Rattle.lane_ops.proofs.compares.le_between.Given as goal

abbrev pub invariant-loop-p : goal.invariant-loop-p
invariant-loop-p l = (l.all ≡ true) ↔ ((q : ℕ) → l.from ≤ q → q < l.p → lane l.a q ≤ℤ lane l.b q)
