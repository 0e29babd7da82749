use Rattle.std.proofs.Common.{ℕ, ◌<◌}
use Rattle.std.specs.Prelude.{◌≤ℤ◌, ℤ}
use Rattle.lane_ops.specs.Lanes.{lane, allowed}
use Rattle.lane_ops.proofs.steps.lower_row.Given as goal

abbrev pub invariant-loop-p : goal.invariant-loop-p
invariant-loop-p l = (l.least ≤ℤ l.k)
    × ((q : ℕ) → q < l.p → l.least ≤ℤ allowed l.k (lane l.row q) (lane l.s q))
    × ((x : ℤ) → x ≤ℤ l.k → ((q : ℕ) → q < l.p → x ≤ℤ allowed l.k (lane l.row q) (lane l.s q)) → x ≤ℤ l.least)
