use Rattle.letter_tree.specs.Sums.{ArePairsOf}
use Rattle.letter_tree.proofs.occurrences.labelled.Given as goal

abbrev pub invariant-loop-place : goal.invariant-loop-place
invariant-loop-place l = ArePairsOf l.nodes l.sums l.place l.out.items
