use Rattle.std.proofs.lemmas.Result.{IfOk-weaker}
use Rattle.letter_tree.specs.Diagram.{TreeData}
use Rattle.letter_tree.proofs.CubeBits.{cubed_label}
use Rattle.letter_tree.proofs.trees.Tree.from_cube.Goals as goal

pub returns-clause-label : goal.returns-clause-label
returns-clause-label c = IfOk-weaker _ _ _ (λ (t : TreeData) h. cubed_label _ _ _ _ _ t.nodes c.in_ok-root.ensures.at h) c.reduced.ensures.label
