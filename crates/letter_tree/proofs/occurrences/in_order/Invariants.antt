use Rattle.std.proofs.Common.{◌≡◌, take}
use Rattle.letter_tree.specs.Occurrence.{labels_in}
use Rattle.letter_tree.proofs.occurrences.in_order.Given as goal

abbrev pub invariant-loop-label : goal.invariant-loop-label
invariant-loop-label l = l.seen.keys ≡ labels_in (take l.label-index l.pairs)
