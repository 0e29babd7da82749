use Rattle.std.proofs.Common.{ℕ, ◌≡◌, ◌<◌, ◌≤◌}
use Rattle.lane_ops.specs.Lanes.{lane, raised}
use Rattle.lane_ops.proofs.steps.raise_row.Given as goal

abbrev pub invariant-loop-p : goal.invariant-loop-p
invariant-loop-p l = ((q : ℕ) → q < l.p → lane l.out q ≡ raised l.k l.value (lane l.row q) (lane l.initial.out q))
    × ((q : ℕ) → l.p ≤ q → lane l.out q ≡ lane l.initial.out q)
