use Rattle.std.proofs.Common.{◌≡◌, ◌++◌, [], ◌∷◌, ◌∙◌, get_or, ap}
use Rattle.action_groups.proofs.Grown.{keeps_pushed, nodes_copied, copy_pushed}
use Rattle.action_groups.proofs.parts.push_copy.Goals as goal

pub returns-clause-nodes : goal.returns-clause-nodes
returns-clause-nodes c =
    let nodes = c.args.nodes.now.items in
    let pushed : c.push.new.self.items ≡ nodes ++ get_or nodes c.args.at c.index-node.result.now ∷ [] = c.in_ok-push.ensures.items ∙ ap (λ n. nodes ++ n ∷ []) c.index-node.ensures in
    nodes_copied c.args.width c.args.count nodes c.push.new.self.items c.args.at c.index-node.result.now c.requires.at c.requires.nodes pushed

pub returns-clause-kept : goal.returns-clause-kept
returns-clause-kept c =
    keeps_pushed c.args.width c.args.count c.args.nodes.now.items c.push.new.self.items _ c.requires.narrow c.requires.nodes c.in_ok-push.ensures.items

pub returns-clause-copy : goal.returns-clause-copy
returns-clause-copy c =
    let nodes = c.args.nodes.now.items in
    let pushed : c.push.new.self.items ≡ nodes ++ get_or nodes c.args.at c.index-node.result.now ∷ [] = c.in_ok-push.ensures.items ∙ ap (λ n. nodes ++ n ∷ []) c.index-node.ensures in
    copy_pushed c.args.width c.args.count nodes c.push.new.self.items c.args.at c.index-node.result.now c.requires.narrow c.requires.nodes c.requires.at pushed
