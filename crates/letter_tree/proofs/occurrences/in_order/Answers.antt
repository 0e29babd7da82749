use Rattle.std.proofs.Common.{◌≤◌, ◌∙◌, length, refl, ap, arith}
use Rattle.std.proofs.lemmas.List.{take_all}
use Rattle.letter_tree.specs.Occurrence.{labels_in}
use Rattle.letter_tree.proofs.Occurring.{labels_more}
use Rattle.letter_tree.proofs.occurrences.in_order.Goals as goal

pub loop-label-preserved : goal.loop-label-preserved
loop-label-preserved c = labels_more c.args.pairs.now c.loop-label.label-index (0, 0) c.loop-label.seen.keys c.insert_full.new.self.keys _ c.loop-label-test.true c.loop-label.invariant refl c.in_ok-insert_full.ensures.keys

pub returns : goal.returns
returns c =
    let end : length c.args.pairs.now ≤ c.loop-label.label-index = omega arith in
    c.loop-label.invariant ∙ ap labels_in (take_all c.loop-label.label-index c.args.pairs.now end)
