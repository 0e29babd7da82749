use Rattle.std.proofs.Common.{◌≡◌, sym, subst, refl, []}
use Rattle.ltl_form.specs.Form.{tree_at}
use Rattle.ltl_form.specs.Numbered.{numbered, AreDistinct}
use Rattle.ltl_form.specs.Normal.{IsNormal, LiteralsBelow}
use Rattle.ltl_form.specs.NodeTrees.{node_trees, formula_at}
use Rattle.ltl_form.proofs.NormalForms.{trees_are, root_is, few_trees, is_normal, literals_low, too_many_numbers}
use Rattle.ltl_form.proofs.NumberSteps.{too_many}
use Rattle.ltl_form.proofs.normals.normal_at.Goals as goal

pub new_number-requires-clause-are : goal.new_number-requires-clause-are
new_number-requires-clause-are c = c.in_ok-numbering.ensures.are c.args.forms.now

pub returns-in_err-root-clause-too_many : goal.returns-in_err-root-clause-too_many
returns-in_err-root-clause-too_many c =
    too_many c.from_residual-in_err-root.result c.in_err-root.field-0.0 _ c.from_residual-in_err-root.ensures.1
    (λ e. too_many_numbers (tree_at c.args.forms.now c.args.place) c.in_ok-numbering.numbering.nodes c.in_ok-numbering.ensures.nodes (c.in_err-root.ensures.over e))

pub invariant_of-result : goal.invariant_of-result
invariant_of-result c =
    subst (λ l. IsNormal l c.in_ok-root.root) (sym c.in_ok-nodes.ensures.value)
    (is_normal c.args.forms.now c.in_ok-numbering.numbering c.new_number.new.self c.args.place c.in_ok-root.root (tree_at c.args.forms.now c.args.place)
    c.in_ok-numbering.ensures.nodes refl c.in_ok-root.ensures.exact c.in_ok-nodes.ensures.numbered)

pub returns : goal.returns
returns c =
    let forms = c.args.forms.now in
    let old = c.in_ok-numbering.numbering in
    let new = c.new_number.new.self in
    let t = tree_at forms c.args.place in
    let root = c.in_ok-root.root in
    let nodes = sym c.in_ok-nodes.ensures.value in
    let none = c.in_ok-numbering.ensures.nodes in
    let numbers = c.in_ok-root.ensures.exact in
    let known = c.in_ok-nodes.ensures.numbered in
    record {
      exact = subst (λ l. node_trees l ≡ numbered t []) nodes (trees_are forms old new c.args.place root t none refl numbers known);
      root = subst (λ l. formula_at l root ≡ t) nodes (root_is forms old new c.args.place root t none refl numbers known);
      distinct = subst (λ l. AreDistinct (node_trees l)) nodes known.distinct;
      few = few_trees forms old new c.args.place root t none refl numbers known;
      too_many = tt;
      literals = λ n low. subst (LiteralsBelow n) nodes (literals_low forms old new c.args.place root t none refl numbers known n low);
    }
