use Rattle.std.proofs.Common.{arith}
use Rattle.std.specs.Prelude.{pos, ◌≤ℤ◌}
use Rattle.std.proofs.lemmas.Int.{ints, clamps}
use Rattle.lane_ops.proofs.Bounds.{raised_on}
use Rattle.lane_ops.proofs.steps.raised_lane.Goals as goal

pub returns : goal.returns
returns c =
    let on : pos 1 ≤ℤ c.args.step = omega (arith, ints) in
    rw (raised_on c.args.k c.args.value c.args.step c.args.old on) (omega (arith, ints, clamps, c.max.ensures.value, c.min.ensures.value))
