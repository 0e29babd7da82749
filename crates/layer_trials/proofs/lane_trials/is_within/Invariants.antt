-- The numbers so far are from -1 to the highest.
use Rattle.std.proofs.Common.{ℕ, negsuc, ◌<◌, ◌≤ℤ◌}
use Rattle.lane_ops.specs.Lanes.{lane}
use Rattle.layer_trials.proofs.lane_trials.is_within.Given as goal

abbrev pub invariant-loop-lane : goal.invariant-loop-lane
invariant-loop-lane l = (p : ℕ) → p < l.lane-index → (negsuc 0 ≤ℤ lane l.lanes p) × (lane l.lanes p ≤ℤ l.high)
