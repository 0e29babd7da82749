use Rattle.word_core.specs.declared.branches.Branch.TheVariants.{Leaf}
use Rattle.action_groups.proofs.Grown.{keeps_pushed, leaf_pushed}
use Rattle.action_groups.proofs.parts.push_leaf.Goals as goal

pub returns-clause-kept : goal.returns-clause-kept
returns-clause-kept c =
    keeps_pushed c.args.width c.args.count c.args.nodes.now.items c.push.new.self.items (Leaf c.args.label) c.requires.narrow c.requires.nodes c.in_ok-push.ensures.items

pub returns-clause-leaf : goal.returns-clause-leaf
returns-clause-leaf c = leaf_pushed c.args.nodes.now.items c.push.new.self.items c.args.label c.in_ok-push.ensures.items
