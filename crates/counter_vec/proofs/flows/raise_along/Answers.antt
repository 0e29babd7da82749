use Rattle.std.proofs.Common.{rules, ◌∙◌, ap, length}
use mir.Val.{SFits, to_z, of_z}
use mir.Syntax.{w16}
use Rattle.std.proofs.lemmas.Int.{to_z-of_z}
use Rattle.std.specs.Int.{int_max}
use Rattle.game_form.specs.Vector.{lane, size_of}
use Rattle.counter_vec.proofs.Along.{along_more, no_step, step_within, number_fits}
use Rattle.std.proofs.Common.{get_or}
use Rattle.counter_vec.proofs.flows.raise_along.Goals as goal

pub brought_number-requires-clause-number : goal.brought_number-requires-clause-number
brought_number-requires-clause-number c =
    let within = step_within (length c.loop-step.out) c.args.steps.now c.loop-step.step-index c.loop-step-test.true c.loop-step.invariant.2 in
    rw (to_z-of_z w16 _ (number_fits _ (within.1, within.2))) (within.1, within.2)

pub loop-step-preserved : goal.loop-step-preserved
loop-step-preserved c =
    let fm : SFits w16 c.max.result = search rules in
    let fb : SFits w16 c.brought_number.result = search rules in
    let fo : SFits w16 (lane c.loop-step.out (get_or c.args.steps.now c.loop-step.step-index no_step).to) = search rules in
    let fn : SFits w16 (get_or c.args.steps.now c.loop-step.step-index no_step).number = (let within = step_within (length c.loop-step.out) c.args.steps.now c.loop-step.step-index c.loop-step-test.true c.loop-step.invariant.2 in number_fits _ (within.1, within.2)) in
    along_more c.args.out.now c.loop-step.out c.args.steps.now (size_of (to_z w16 (of_z w16 c.args.k))) (to_z w16 (of_z w16 c.args.value)) (to_z w16 (of_z w16 c.max.result)) (to_z w16 (of_z w16 c.brought_number.result)) _ c.loop-step.step-index
    c.loop-step-test.true c.loop-step.invariant.0 c.loop-step.invariant.1 c.loop-step.invariant.2
    (to_z-of_z w16 _ fm ∙ c.max.ensures.value ∙ ap (λ y. int_max y (to_z w16 (of_z w16 c.brought_number.result))) (to_z-of_z w16 _ fo)) (to_z-of_z w16 _ fb ∙ c.brought_number.ensures) (to_z-of_z w16 _ fn)
