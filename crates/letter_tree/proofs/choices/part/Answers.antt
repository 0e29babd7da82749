use Rattle.std.proofs.Common.{cond, subst}
use Rattle.word_core.specs.declared.branches.Branch.TheVariants.{Leaf}
use Rattle.letter_tree.specs.Choice.{IsPart}
use Rattle.letter_tree.proofs.Copies.{read_at}
use Rattle.letter_tree.proofs.SignalChoices.{part_of}
use Rattle.letter_tree.proofs.choices.part.Goals as goal

pub returns-then-value : goal.returns-then-value
returns-then-value c =
    let e = read_at _ _ (Leaf 0) _ c.requires.at_in c.in-Split.is in
    let p = part_of _ _ _ _ _ _ c.args.value c.requires.diagram e in
    subst (λ s. IsPart c.args.nodes.now c.args.width s c.args.at c.args.value c.in-Split.high) c.if-tested-signal.false
    (subst (λ v. IsPart c.args.nodes.now c.args.width c.in-Split.tested c.args.at c.args.value (cond v c.in-Split.high c.in-Split.low)) c.if-value.true p)

pub returns-else-value : goal.returns-else-value
returns-else-value c =
    let e = read_at _ _ (Leaf 0) _ c.requires.at_in c.in-Split.is in
    let p = part_of _ _ _ _ _ _ c.args.value c.requires.diagram e in
    subst (λ s. IsPart c.args.nodes.now c.args.width s c.args.at c.args.value c.in-Split.low) c.if-tested-signal.false
    (subst (λ v. IsPart c.args.nodes.now c.args.width c.in-Split.tested c.args.at c.args.value (cond v c.in-Split.high c.in-Split.low)) c.if-value.false p)
