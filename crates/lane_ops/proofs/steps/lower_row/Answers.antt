use Rattle.std.proofs.Common.{rules, ◌∙◌}
use mir.Val.{SFits, to_z, of_z}
use mir.Syntax.{w16}
use Rattle.std.proofs.lemmas.Int.{to_z-of_z}
use Rattle.lane_ops.proofs.Bounds.{least_more}
use Rattle.lane_ops.specs.Lanes.{lane}
use Rattle.lane_ops.proofs.steps.lower_row.Goals as goal

pub loop-p-preserved : goal.loop-p-preserved
loop-p-preserved c =
    let fr : SFits w16 c.allowed_lane.result = search rules in
    let fm : SFits w16 c.min-least.result = search rules in
    let row : SFits w16 (lane c.args.row.now c.loop-p.p) = search rules in
    let s : SFits w16 (lane c.args.s.now c.loop-p.p) = search rules in
    least_more c.args.row.now c.args.s.now (to_z w16 (of_z w16 c.args.k)) (to_z w16 c.loop-p.least-bits) (to_z w16 (of_z w16 c.allowed_lane.result)) _ _ _ c.loop-p.p
    (to_z-of_z w16 _ fr ∙ c.allowed_lane.ensures) (to_z-of_z w16 _ row) (to_z-of_z w16 _ s)
    (to_z-of_z w16 _ fm ∙ c.min-least.ensures.value) c.loop-p.invariant.0 c.loop-p.invariant.1 c.loop-p.invariant.2
