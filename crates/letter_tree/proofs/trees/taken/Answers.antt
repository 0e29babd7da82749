use Rattle.std.proofs.lemmas.Result.{IfOk-weaker}
use Rattle.letter_tree.proofs.Lists.{IsChoosing-none, node_leaf}
use Rattle.letter_tree.proofs.trees.taken.Goals as goal

pub chosen-requires-clause-choosing : goal.chosen-requires-clause-choosing
chosen-requires-clause-choosing c = IsChoosing-none _ _ _ c.new-memo.ensures

pub returns-in-Leaf-clause-at : goal.returns-in-Leaf-clause-at
returns-in-Leaf-clause-at c = IfOk-weaker _ _ _ (λ place e. node_leaf _ _ _ place _ c.in-Leaf.is e) c.leaf.ensures.at
