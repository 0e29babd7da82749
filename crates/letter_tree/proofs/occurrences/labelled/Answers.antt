use Rattle.std.proofs.Common.{None, arith}
use Rattle.std.proofs.lemmas.Option.{slice_get-get_or}
use Rattle.word_core.specs.declared.branches.Branch.TheVariants.{Leaf}
use Rattle.letter_tree.proofs.SumSteps.{pairs_start, pairs_more, pairs_all}
use Rattle.letter_tree.proofs.occurrences.labelled.Goals as goal

pub loop-place-init : goal.loop-place-init
loop-place-init c = rw c.new-out.ensures.items (pairs_start _ _)

pub loop-place-preserved : goal.loop-place-preserved
loop-place-preserved c =
    let node = slice_get-get_or c.args.nodes.now c.loop-place.place (Leaf 0) c.loop-place-test.true in
    let sum = slice_get-get_or c.args.sums.now c.loop-place.place None (omega (arith, c.requires.count, c.loop-place-test.true)) in
    pairs_more _ _ _ _ _ _ _ c.requires.distinct c.in_ok-put_label.ensures node sum c.loop-place.invariant

pub returns : goal.returns
returns c = pairs_all _ _ _ _ c.loop-place-test.false c.loop-place.invariant
