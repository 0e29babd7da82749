use Rattle.std.proofs.Common.{arith, rules, ◌∙◌}
use mir.Val.{SFits, to_z, of_z}
use mir.Syntax.{w16}
use Rattle.std.proofs.lemmas.Int.{to_z-of_z}
use Rattle.lane_ops.proofs.Bounds.{raised_more}
use Rattle.lane_ops.specs.Lanes.{lane}
use Rattle.lane_ops.proofs.steps.raise_row.Goals as goal

pub loop-p-preserved : goal.loop-p-preserved
loop-p-preserved c =
    let fr : SFits w16 c.raised_lane.result = search rules in
    let row : SFits w16 (lane c.args.row.now c.loop-p.p) = search rules in
    let old : SFits w16 (lane c.loop-p.out c.loop-p.p) = search rules in
    raised_more c.loop-p.out c.args.out.now c.args.row.now (to_z w16 (of_z w16 c.args.k)) (to_z w16 (of_z w16 c.args.value)) _ _ _ c.loop-p.p (omega arith)
    (to_z-of_z w16 _ fr ∙ c.raised_lane.ensures) (to_z-of_z w16 _ row) (to_z-of_z w16 _ old)
    c.loop-p.invariant.0 c.loop-p.invariant.1
