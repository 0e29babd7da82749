use Rattle.std.proofs.Common.{◌≡◌, take}
use Rattle.letter_tree.specs.Cut.{all_stopped}
use Rattle.letter_tree.proofs.cuts.front.Given as goal

abbrev pub invariant-loop-place : goal.invariant-loop-place
invariant-loop-place l = l.all.items ≡ all_stopped l.width 0 (take l.place l.nodes)
