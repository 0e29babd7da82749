use Rattle.std.proofs.Common.{ℕ, ◌≡◌, ◌<◌}
use Rattle.std.specs.Int.{int_min}
use Rattle.lane_ops.specs.Lanes.{lane}
use Rattle.lane_ops.proofs.steps.meet_into.Given as goal

abbrev pub invariant-loop-p : goal.invariant-loop-p
invariant-loop-p l = (q : ℕ) → q < l.p → lane l.out q ≡ int_min (lane l.a q) (lane l.b q)
