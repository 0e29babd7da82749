use Rattle.std.proofs.Common.{arith, rules, ◌∙◌, ◌≡◌, length}
use mir.Val.{SFits, to_z, of_z}
use mir.Syntax.{w16}
use Rattle.std.proofs.lemmas.Int.{to_z-of_z, ints}
use Rattle.std.specs.Prelude.{pos}
use Rattle.std.specs.Int.{int_min}
use Rattle.game_form.specs.Vector.{lane, allowed, size_of}
use Rattle.std.specs.Prelude.{ℤ}
use Rattle.counter_vec.proofs.Along.{lowest_more, lowest_begins, lowest_ends, pos-size_of, no_step, step_within, number_fits, drop_all}
use Rattle.std.proofs.Common.{get_or, drop, subst}
use Rattle.counter_vec.proofs.flows.lowest_along.Goals as goal

pub loop-step-init : goal.loop-step-init
loop-step-init c =
    let k : ℤ = to_z w16 (of_z w16 c.args.k) in
    let at : pos (size_of k) ≡ k = pos-size_of k (omega (arith, ints)) in (
      omega (arith, ints),
      subst (λ y. int_min y (allowed (size_of k) c.args.steps.now 0 c.args.v.now) ≡ allowed (size_of k) c.args.steps.now 0 c.args.v.now) at (lowest_begins (size_of k) c.args.steps.now c.args.v.now),
      (0, c.requires.row),
    )

pub loop-step-preserved : goal.loop-step-preserved
loop-step-preserved c =
    let fm : SFits w16 c.min-least.result = search rules in
    let fb : SFits w16 c.allowed_number.result = search rules in
    let fx : SFits w16 (lane c.args.v.now (get_or c.args.steps.now c.loop-step.step-index no_step).to) = search rules in
    let fn : SFits w16 (get_or c.args.steps.now c.loop-step.step-index no_step).number = (let within = step_within (length c.args.v.now) c.args.steps.now c.loop-step.step-index c.loop-step-test.true c.loop-step.invariant.2 in number_fits _ (within.1, within.2)) in
    lowest_more c.args.v.now c.args.steps.now (size_of (to_z w16 (of_z w16 c.args.k))) (to_z w16 (of_z w16 c.args.k)) (to_z w16 c.loop-step.least-bits) (to_z w16 (of_z w16 c.min-least.result)) (to_z w16 (of_z w16 c.allowed_number.result)) _ _ c.loop-step.step-index
    c.loop-step-test.true c.loop-step.invariant.0 c.loop-step.invariant.1 c.loop-step.invariant.2
    (to_z-of_z w16 _ fm ∙ c.min-least.ensures.value) (to_z-of_z w16 _ fb ∙ c.allowed_number.ensures) (to_z-of_z w16 _ fx) (to_z-of_z w16 _ fn)

pub returns : goal.returns
returns c =
    let k : ℤ = to_z w16 (of_z w16 c.args.k) in
    let same : k ≡ c.args.k = to_z-of_z w16 _ c.ranges.k in
    let at : pos (size_of k) ≡ k = pos-size_of k (omega (arith, ints)) in
    subst (λ y. to_z w16 c.loop-step.least-bits ≡ allowed (size_of y) c.args.steps.now 0 c.args.v.now) same
    (lowest_ends (size_of k) (to_z w16 c.loop-step.least-bits) c.args.steps.now (drop c.loop-step.step-index c.args.steps.now) c.args.v.now (drop_all c.args.steps.now c.loop-step.step-index c.loop-step-test.false)
    (omega (arith, ints, c.loop-step.invariant.0)) c.loop-step.invariant.1)
