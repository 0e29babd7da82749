use Rattle.std.proofs.Common.{◌≡◌, ◌∙◌, ap}
use Rattle.std.proofs.lemmas.Result.{IfOk-weaker}
use Rattle.ltl_form.specs.Form.{tree_at}
use Rattle.ltl_form.specs.Meaning.{tree_holds}
use Rattle.ltl_form.specs.Tree.{normal_tree, tree_below}
use Rattle.ltl_form.proofs.Below.{normal_below, chosen_is}
use Rattle.ltl_form.proofs.SidesMean.{normal_means}
use Rattle.ltl_form.proofs.normals.nnf.Goals as goal

pub returns-clause-meaning : goal.returns-clause-meaning
returns-clause-meaning c = λ w p some.
    let is : tree_at c.as_slice.result.now c.chosen-place.result ≡ normal_tree c.args.f.now c.args.positive =
    ap (λ l. tree_at l c.chosen-place.result) c.as_slice.ensures.value
    ∙ ap (tree_at c.pair_of.new.forms) c.chosen-place.ensures
    ∙ chosen_is c.pair_of.new.forms c.in_ok-pair.pair c.args.f.now c.args.positive c.in_ok-pair.ensures.is in
    IfOk-weaker c.normal_at.result _ _ (λ normal root. ap (λ t. tree_holds w t p) (root ∙ is) ∙ normal_means w some c.args.f.now c.args.positive p) c.normal_at.ensures.root

pub returns-clause-literals : goal.returns-clause-literals
returns-clause-literals c = λ n h.
    let is : tree_at c.as_slice.result.now c.chosen-place.result ≡ normal_tree c.args.f.now c.args.positive =
    ap (λ l. tree_at l c.chosen-place.result) c.as_slice.ensures.value
    ∙ ap (tree_at c.pair_of.new.forms) c.chosen-place.ensures
    ∙ chosen_is c.pair_of.new.forms c.in_ok-pair.pair c.args.f.now c.args.positive c.in_ok-pair.ensures.is in
    c.normal_at.ensures.literals n (ap (tree_below n) is ∙ normal_below n c.args.f.now c.args.positive h)
