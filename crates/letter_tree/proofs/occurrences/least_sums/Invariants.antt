use Rattle.letter_tree.specs.Sums.{ArePassing}
use Rattle.letter_tree.proofs.occurrences.least_sums.Given as goal

abbrev pub invariant-loop-place : goal.invariant-loop-place
invariant-loop-place l = ArePassing l.width l.nodes l.place l.sums.items
