use Rattle.std.proofs.Common.{ℕ, ◌≡◌, ◌<◌, ◌≤◌, true}
use Rattle.std.specs.Prelude.{◌≤ℤ◌, ◌↔◌}
use Rattle.std.specs.Int.{int_min}
use Rattle.lane_ops.specs.Lanes.{lane}
use Rattle.lane_ops.proofs.compares.meet_le_between.Given as goal

abbrev pub invariant-loop-p : goal.invariant-loop-p
invariant-loop-p l = (l.all ≡ true) ↔ ((q : ℕ) → l.from ≤ q → q < l.p → int_min (lane l.a q) (lane l.b q) ≤ℤ lane l.c q)
