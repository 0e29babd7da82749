use Rattle.std.proofs.Common.{ℕ, ◌≡◌, ◌<◌}
use Rattle.std.specs.Prelude.{◌+ℤ◌}
use Rattle.lane_ops.specs.Lanes.{lane}
use Rattle.lane_ops.proofs.steps.lift_into.Given as goal

abbrev pub invariant-loop-p : goal.invariant-loop-p
invariant-loop-p l = (q : ℕ) → q < l.p → lane l.out q ≡ lane l.v q +ℤ l.by
