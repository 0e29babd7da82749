use Rattle.std.proofs.Common.{◌≡◌, ◌-◌, ◌∙◌, ◌++◌, [], ◌∷◌, length, ap, arith}
use Rattle.std.proofs.lemmas.Grind.{common_steps}
use Rattle.word_core.specs.declared.branches.Branch.TheVariants.{Split}
use Rattle.action_groups.proofs.Grown.{keeps_pushed, split_pushed}
use Rattle.action_groups.proofs.parts.push_split.Goals as goal

pub returns-clause-kept : goal.returns-clause-kept
returns-clause-kept c =
    keeps_pushed c.args.width c.args.count c.args.nodes.now.items c.push.new.self.items _ c.requires.narrow c.requires.nodes c.in_ok-push.ensures.items

pub returns-clause-split : goal.returns-clause-split
returns-clause-split c =
    let size : c.len.result ≡ length c.args.nodes.now.items = grind (arith, common_steps) in
    let pushed : c.push.new.self.items ≡ c.args.nodes.now.items ++ Split c.args.signal c.args.low (length c.args.nodes.now.items - 1) ∷ [] =
    c.in_ok-push.ensures.items ∙ ap (λ n. c.args.nodes.now.items ++ Split c.args.signal c.args.low (n - 1) ∷ []) size in
    split_pushed c.args.width c.args.count c.args.nodes.now.items c.push.new.self.items c.args.signal c.args.low c.requires.narrow c.requires.nodes c.requires.signal c.requires.low pushed
