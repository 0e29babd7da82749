use Rattle.std.proofs.Common.{ℕ, ◌≡◌, ◌<◌}
use Rattle.lane_ops.specs.Lanes.{lane}
use Rattle.lane_ops.proofs.compares.first_differs.Given as goal

abbrev pub invariant-loop-p : goal.invariant-loop-p
invariant-loop-p l = (q : ℕ) → q < l.p → lane l.a q ≡ lane l.b q
