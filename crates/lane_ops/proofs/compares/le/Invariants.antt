use Rattle.std.proofs.Common.{ℕ, ◌<◌, ◌*◌}
use Rattle.std.specs.Prelude.{◌≤ℤ◌}
use Rattle.lane_ops.specs.Lanes.{lane}
use Rattle.lane_ops.proofs.compares.le.Given as goal

abbrev pub invariant-loop-block : goal.invariant-loop-block
invariant-loop-block l = (q : ℕ) → q < l.block * 8 → lane l.a q ≤ℤ lane l.b q
