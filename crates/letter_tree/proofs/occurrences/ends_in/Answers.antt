use Rattle.std.proofs.Common.{◌≡◌, ap, ◌∙◌, sym}
use Rattle.std.proofs.lemmas.Option.{slice_get-get_or}
use Rattle.std.specs.List.{slice_get}
use Rattle.word_core.specs.declared.branches.Branch.TheVariants.{Leaf}
use Rattle.letter_tree.specs.Diagram.{top}
use Rattle.letter_tree.proofs.Leadings.{ends_then, ends_else}
use Rattle.letter_tree.proofs.occurrences.ends_in.Goals as goal

pub returns-then-first_signal-signal : goal.returns-then-first_signal-signal
returns-then-first_signal-signal c =
    let e : c.first_signal.result ≡ top c.args.width (slice_get c.args.nodes.now c.args.at) =
    c.first_signal.ensures ∙ ap (top c.args.width) (sym (slice_get-get_or c.args.nodes.now c.args.at (Leaf 0) c.requires.at_in)) in
    ends_then c.args.width c.args.nodes.now c.args.signal c.args.bits c.args.label c.args.at c.first_signal.result c.walk.result c.requires.tree c.requires.at_in c.if-first_signal-signal.true e c.walk.ensures.label

pub returns-else-first_signal-signal : goal.returns-else-first_signal-signal
returns-else-first_signal-signal c =
    let e : c.first_signal.result ≡ top c.args.width (slice_get c.args.nodes.now c.args.at) =
    c.first_signal.ensures ∙ ap (top c.args.width) (sym (slice_get-get_or c.args.nodes.now c.args.at (Leaf 0) c.requires.at_in)) in
    ends_else c.args.width c.args.nodes.now c.args.signal c.args.bits c.args.label c.args.at c.first_signal.result c.if-first_signal-signal.false e
