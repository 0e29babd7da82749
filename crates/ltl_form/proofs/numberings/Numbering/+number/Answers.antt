use Rattle.std.proofs.Common.{◌≡◌, ◌<◌, ◌∙◌, ap, sym, subst, None, Some, length, slice_index_or, arith}
use Rattle.std.proofs.lemmas.List.{get_or_read}
use Rattle.std.proofs.lemmas.Result.{IfOk-weaker, IfErr-weaker}
use Rattle.ltl_form.specs.Numbering.{IsNumbered}
use Rattle.ltl_form.proofs.NumberSteps.{too_many, numbers_known, numbers_put, numbers_two, over_left, over_deep, over_inside, over_put}
use Rattle.ltl_form.proofs.numberings.Numbering.+number.Goals as goal

pub new_number-returns-then-depth-eq-MOST-clause-over : goal.new_number-returns-then-depth-eq-MOST-clause-over
new_number-returns-then-depth-eq-MOST-clause-over t c = λ e. over_deep c.args.forms.now c.args.self.now c.args.self.now c.args.at c.args.depth c.if-depth-eq-MOST.true

pub new_number-returns-in_err-node-clause-over : goal.new_number-returns-in_err-node-clause-over
new_number-returns-in_err-node-clause-over t c =
    too_many c.from_residual.result c.in_err-node.field-0.0 _ c.from_residual.ensures.1
    (λ e. over_inside c.args.forms.now c.args.self.now c.args.self.now c.args.at c.args.depth (c.in_err-node.ensures.over e))

pub new_number-returns-clause-exact : goal.new_number-returns-clause-exact
new_number-returns-clause-exact t c =
    let inside = c.in_ok-node.ensures.exact in
    let within : c.args.at < length c.args.self.now.numbers = omega arith in
    IfOk-weaker c.put.result _ _ (λ n h. numbers_put c.args.forms.now c.args.self.now c.node.new.self c.put.new.self c.args.at c.in_ok-node.node n within inside h) c.put.ensures.exact

pub new_number-returns-clause-over : goal.new_number-returns-clause-over
new_number-returns-clause-over t c =
    let inside = c.in_ok-node.ensures.exact in
    IfErr-weaker c.put.result _ _ (λ y h e. over_put c.args.forms.now c.args.self.now c.node.new.self c.args.at c.args.depth c.in_ok-node.node inside (h e)) c.put.ensures.over

pub number-returns-in-Some-clause-exact : goal.number-returns-in-Some-clause-exact
number-returns-in-Some-clause-exact t c =
    let items = c.self.inside.numbers.items in
    let within : c.args.at < length items = omega (arith, ap (λ v. length v.numbers) c.self.view_is) in
    numbers_known c.args.forms.now c.args.self.now c.args.at c.in-Some.number
    (subst (λ v. IsNumbered v.nodes) c.self.view_is c.self.invariant).below c.requires.are
    (subst (λ v. slice_index_or v.numbers c.args.at None ≡ Some c.in-Some.number) c.self.view_is (sym (get_or_read items c.args.at c.index.result.now within c.index.ensures None) ∙ c.in-Some.is))

pub two_numbers-returns-in_err-f-clause-over : goal.two_numbers-returns-in_err-f-clause-over
two_numbers-returns-in_err-f-clause-over t c =
    too_many c.from_residual.result c.in_err-f.field-0.0 _ c.from_residual.ensures.1
    (λ e. over_left c.args.forms.now c.args.self.now c.args.self.now c.args.f c.args.depth c.args.f c.args.g (c.in_err-f.ensures.over e))

pub two_numbers-returns-clause-exact : goal.two_numbers-returns-clause-exact
two_numbers-returns-clause-exact t c =
    numbers_two c.args.forms.now c.args.self.now c.number.new.self c.number-2.new.self c.args.f c.args.g c.in_ok-f.f c.in_ok-g.g c.in_ok-f.ensures.exact c.in_ok-g.ensures.exact
