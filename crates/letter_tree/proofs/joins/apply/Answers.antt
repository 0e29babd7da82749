use Rattle.letter_tree.proofs.Lists.{IsJoining-none}
use Rattle.letter_tree.proofs.joins.apply.Goals as goal

pub joined-requires-clause-joining : goal.joined-requires-clause-joining
joined-requires-clause-joining g c = IsJoining-none _ _ _ _ _ c.new-memo.ensures
