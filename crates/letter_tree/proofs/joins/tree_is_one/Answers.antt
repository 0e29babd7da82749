use Rattle.letter_tree.proofs.OneTree.{one_data}
use Rattle.letter_tree.proofs.joins.tree_is_one.Goals as goal

pub returns : goal.returns
returns c = one_data _ _ c.branches.ensures.known c.branches-2.ensures.known c.requires
