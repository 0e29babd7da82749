use Rattle.std.proofs.Common.{arith, rules}
use Rattle.std.specs.Prelude.{◌≤ℤ◌}
use Rattle.std.specs.Int.{int_min}
use Rattle.lane_ops.proofs.Bounds.{all_more}
use Rattle.lane_ops.specs.Lanes.{lane}
use Rattle.lane_ops.proofs.compares.meet_le_between.Goals as goal

pub loop-p-preserved : goal.loop-p-preserved
loop-p-preserved c =
    all_more (λ q. int_min (lane c.args.a.now q) (lane c.args.b.now q) ≤ℤ lane c.args.c.now q) c.args.from c.loop-p.p c.loop-p.all c.smaller_at_most-all.result (omega arith)
    c.loop-p.invariant.0 c.loop-p.invariant.1 (search rules) (search rules)
