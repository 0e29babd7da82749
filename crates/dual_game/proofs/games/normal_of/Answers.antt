use Rattle.std.proofs.Common.{◌≡◌, ◌≤◌, ◌<◌, not, if◌then◌else◌, subst, [], length}
use Rattle.ltl_form.specs.declared.normals.FormError.TheVariants.{TooManyFormulas}
use Rattle.ltl_form.specs.Meaning.{holds_at, tree_holds}
use Rattle.ltl_form.specs.NodeTrees.{node_trees, formula_at}
use Rattle.ltl_form.specs.Numbered.{numbered}
use Rattle.ltl_form.specs.Tree.{normal_tree}
use Rattle.dual_game.specs.Automata.{formula_count}
use Rattle.dual_game.proofs.Avoiding.{passed_on}
use Rattle.dual_game.proofs.Weaker.{wider}
use Rattle.dual_game.proofs.games.normal_of.Goals as goal

pub nnf-requires : goal.nnf-requires
nnf-requires c = wider _ 64 c.requires.few c.args.s.now.formula c.requires.numbered

pub returns-clause-literals : goal.returns-clause-literals
returns-clause-literals c = c.in_ok-normal.ensures.literals _ c.requires.numbered

pub returns-clause-normal : goal.returns-clause-normal
returns-clause-normal c = record {
  is = c.nodes.ensures.normal;
  distinct = c.in_ok-normal.ensures.distinct;
  numbers = subst (λ b. node_trees c.in_ok-normal.normal.nodes ≡ numbered (normal_tree c.args.s.now.formula b) []) c.avoids_truth.ensures c.in_ok-normal.ensures.exact;
  whole = subst (λ b. formula_at c.in_ok-normal.normal.nodes c.in_ok-normal.normal.root ≡ normal_tree c.args.s.now.formula b) c.avoids_truth.ensures c.in_ok-normal.ensures.root;
}

pub returns-clause-few : goal.returns-clause-few
returns-clause-few c = subst (λ b. length (numbered (normal_tree c.args.s.now.formula b) []) ≤ 512) c.avoids_truth.ensures c.in_ok-normal.ensures.few

pub returns-in_err-normal-clause-many : goal.returns-in_err-normal-clause-many
returns-in_err-normal-clause-many c =
    passed_on c.from_residual.result c.in_err-normal.field-0.0 (λ e. e ≡ TooManyFormulas → 512 < formula_count c.args.s.now c.args.player) c.from_residual.ensures.1
    (subst (λ b. c.in_err-normal.field-0.0 ≡ TooManyFormulas → 512 < length (numbered (normal_tree c.args.s.now.formula b) [])) c.avoids_truth.ensures c.in_err-normal.ensures.too_many)

pub returns-clause-meaning : goal.returns-clause-meaning
returns-clause-meaning c = λ w some.
    subst (λ b. tree_holds w (formula_at c.in_ok-normal.normal.nodes c.in_ok-normal.normal.root) 0 ≡ (if b then holds_at w c.args.s.now.formula 0 else not (holds_at w c.args.s.now.formula 0)))
    c.avoids_truth.ensures (c.in_ok-normal.ensures.meaning w 0 some)
