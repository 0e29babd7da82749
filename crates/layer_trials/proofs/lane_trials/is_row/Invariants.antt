-- The numbers so far are from 0 to 2.
use Rattle.std.proofs.Common.{ℕ, pos, ◌<◌, ◌≤ℤ◌}
use Rattle.lane_ops.specs.Lanes.{lane}
use Rattle.layer_trials.proofs.lane_trials.is_row.Given as goal

abbrev pub invariant-loop-number : goal.invariant-loop-number
invariant-loop-number l = (p : ℕ) → p < l.number-index → (pos 0 ≤ℤ lane l.row p) × (lane l.row p ≤ℤ pos 2)
