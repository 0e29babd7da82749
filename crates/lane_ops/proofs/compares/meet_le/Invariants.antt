use Rattle.std.proofs.Common.{ℕ, ◌<◌, ◌*◌}
use Rattle.std.specs.Prelude.{◌≤ℤ◌}
use Rattle.std.specs.Int.{int_min}
use Rattle.lane_ops.specs.Lanes.{lane}
use Rattle.lane_ops.proofs.compares.meet_le.Given as goal

abbrev pub invariant-loop-block : goal.invariant-loop-block
invariant-loop-block l = (q : ℕ) → q < l.block * 8 → int_min (lane l.a q) (lane l.b q) ≤ℤ lane l.c q
