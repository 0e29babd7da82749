use Rattle.std.proofs.Common.{arith}
use Rattle.std.specs.Prelude.{pos, ◌≤ℤ◌}
use Rattle.std.proofs.lemmas.Int.{ints, clamps}
use Rattle.lane_ops.proofs.Bounds.{allowed_on}
use Rattle.lane_ops.proofs.steps.allowed_lane.Goals as goal

pub returns : goal.returns
returns c =
    let on : pos 1 ≤ℤ c.args.step = omega (arith, ints) in
    rw (allowed_on c.args.k c.args.step c.args.s on) (omega (arith, ints, clamps, c.max.ensures.value))
