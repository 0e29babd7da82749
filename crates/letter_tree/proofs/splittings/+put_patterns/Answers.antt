use Rattle.std.proofs.Common.{◌++◌, sym, ap, ◌∙◌, arith}
use Rattle.word_core.specs.declared.branches.Branch.TheVariants.{Leaf}
use Rattle.word_core.specs.Cube.{IsCube}
use Rattle.std.specs.List.{slice_get}
use Rattle.letter_tree.specs.Diagram.{top}
use Rattle.letter_tree.proofs.Copies.{read_at}
use Rattle.letter_tree.proofs.Joints.{fork_at}
use Rattle.letter_tree.proofs.SplitLines.{IsCube-wider, lines_at-leaf, put_split}
use Rattle.letter_tree.proofs.splittings.+put_patterns.Goals as goal

pub with_signal-one-requires-clause-small : goal.with_signal-one-requires-clause-small
with_signal-one-requires-clause-small t c =
    let e = read_at _ _ (Leaf 0) _ c.requires.at_in c.in-Split.is in
    let k = fork_at _ _ _ _ _ _ c.requires.diagram e in
    omega (arith, k.signal_in, c.requires.diagram.narrow)

pub put_patterns-requires : goal.put_patterns-requires
put_patterns-requires t c =
    let e = read_at _ _ (Leaf 0) _ c.requires.at_in c.in-Split.is in
    let k = fork_at _ _ _ _ _ _ c.requires.diagram e in
    let f : IsCube (top c.args.width (slice_get c.args.nodes.now c.in-Split.low)) c.with_signal-zero.result =
    IsCube-wider _ _ _ (omega (arith, k.low_later)) c.with_signal-zero.ensures.earlier in
    (omega (arith, k.low_earlier), (c.requires.diagram, (omega (arith, k.low_earlier, c.requires.at_in), f)))

pub put_patterns-requires-in-Split : goal.put_patterns-requires-in-Split
put_patterns-requires-in-Split t c =
    let e = read_at _ _ (Leaf 0) _ c.requires.at_in c.in-Split.is in
    let k = fork_at _ _ _ _ _ _ c.requires.diagram e in
    let f : IsCube (top c.args.width (slice_get c.args.nodes.now c.in-Split.high)) c.with_signal-one.result =
    IsCube-wider _ _ _ (omega (arith, k.high_later)) c.with_signal-one.ensures.earlier in
    (omega (arith, k.high_earlier), (c.requires.diagram, (omega (arith, k.high_earlier, c.requires.at_in), f)))

pub returns-in_ok-push-in-Leaf : goal.returns-in_ok-push-in-Leaf
returns-in_ok-push-in-Leaf t c =
    let e = read_at _ _ (Leaf 0) _ c.requires.at_in c.in-Leaf.is in
    c.in_ok-push-in-Leaf.ensures.items ∙ ap (λ l. c.args.out.now.items ++ l) (sym (lines_at-leaf _ _ _ _ e))

pub returns-in_ok-put_patterns-in-Split-2 : goal.returns-in_ok-put_patterns-in-Split-2
returns-in_ok-put_patterns-in-Split-2 t c =
    let e = read_at _ _ (Leaf 0) _ c.requires.at_in c.in-Split.is in
    put_split _ _ _ _ _ _ _ _ _ _ _ _ c.requires.diagram e c.with_signal-zero.ensures.cube c.with_signal-one.ensures.cube
    c.in_ok-put_patterns-in-Split.ensures c.in_ok-put_patterns-in-Split-2.ensures
