use Rattle.std.proofs.Common.{◌≡◌, ◌<◌, ◌-◌, length, replicate, ap, ◌∙◌, refl, arith, rules}
use Rattle.std.specs.List.{slice_get}
use Rattle.letter_tree.proofs.Copies.{read_as}
use Rattle.letter_tree.proofs.SumSteps.{no_sum, step_none, passing_from}
use Rattle.letter_tree.proofs.occurrences.least_sums.Goals as goal

pub loop-place-init : goal.loop-place-init
loop-place-init c =
    let e : c.in_ok-sums.sums.items ≡ replicate (length c.args.nodes.now) no_sum = search rules in
    passing_from _ _ _ _ refl c.requires.tree.some e

pub loop-place-preserved-in-None : goal.loop-place-preserved-in-None
loop-place-preserved-in-None c =
    let h : c.loop-place.place - 1 < length c.loop-place.sums.items = omega (arith, c.loop-place.invariant.count, c.loop-place-test.true) in
    step_none _ _ _ _ c.loop-place-test.true (read_as _ _ _ _ h c.index.ensures c.in-None.is) c.loop-place.invariant

pub pass_on-requires-clause-sum : goal.pass_on-requires-clause-sum
pass_on-requires-clause-sum c =
    let h : c.loop-place.place - 1 < length c.loop-place.sums.items = omega (arith, c.loop-place.invariant.count, c.loop-place-test.true) in
    ap (λ t. slice_get t (c.loop-place.place - 1)) c.deref_mut.ensures.value ∙ read_as _ _ _ _ h c.index.ensures c.in-Some.is
