use Rattle.std.proofs.Common.{[], ◌∷◌, refl, ap, ◌∙◌}
use Rattle.word_core.specs.declared.branches.Branch.TheVariants.{Leaf}
use Rattle.word_core.specs.Tree.{label_of}
use Rattle.letter_tree.proofs.Diagrams.{label_at-leaf, one_leaf}
use Rattle.letter_tree.proofs.trees.Tree.constant.Goals as goal

pub returns-clause-label : goal.returns-clause-label
returns-clause-label c bits =
    ap (λ t. label_of t bits) c.in_ok-vec.ensures.items ∙ label_at-leaf (Leaf c.args.label ∷ []) 0 c.args.label bits refl

pub invariant_of-result : goal.invariant_of-result
invariant_of-result c = one_leaf c.args.width c.args.label _ c.requires c.in_ok-vec.ensures.items
