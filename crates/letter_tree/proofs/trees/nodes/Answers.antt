use Rattle.std.proofs.Common.{sym, ◌∙◌, subst}
use Rattle.word_core.specs.Tree.{IsTree, AllTestBelow}
use Rattle.letter_tree.proofs.Diagrams.{IsTree-rooted, AllTestBelow-diagram}
use Rattle.letter_tree.proofs.trees.nodes.Goals as goal

pub returns-clause-tree : goal.returns-clause-tree
returns-clause-tree c = subst IsTree (sym (c.in_ok-all.ensures.items ∙ c.branches.ensures.value)) (IsTree-rooted _ _ c.branches.ensures.known)

pub returns-clause-signals : goal.returns-clause-signals
returns-clause-signals c =
    subst (AllTestBelow c.args.t.now.width) (sym (c.in_ok-all.ensures.items ∙ c.branches.ensures.value)) (AllTestBelow-diagram _ _ c.branches.ensures.known.diagram)
