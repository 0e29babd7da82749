use Rattle.std.proofs.Common.{◌≡◌, ◌∙◌, ◌≤◌, List, length, map, ap, arith}
use Rattle.std.proofs.lemmas.List.{take_all}
use Rattle.word_core.specs.declared.branches.Branch.{Branch}
use Rattle.action_groups.specs.Rank.{with_number}
use Rattle.action_groups.proofs.Grown.{label_numbered}
use Rattle.action_groups.proofs.ranks.relabelled.Goals as goal

pub returns-clause-labels : goal.returns-clause-labels
returns-clause-labels c =
    let end : length c.args.nodes.now ≤ c.loop-node.node-index = omega arith in
    let all : c.loop-node.out.items ≡ map (with_number c.args.numbers.now) c.args.nodes.now =
    c.loop-node.invariant.2 ∙ ap (λ (l : List Branch). map (with_number c.args.numbers.now) l) (take_all c.loop-node.node-index c.args.nodes.now end) in
    label_numbered c.args.width (length c.args.numbers.now) c.args.numbers.now c.args.nodes.now c.loop-node.out.items c.requires.narrow c.requires.nodes c.requires.some all
