use Rattle.std.proofs.Common.{◌≡◌, take, map}
use Rattle.letter_tree.specs.Cut.{relabelled}
use Rattle.letter_tree.proofs.cuts.numbered.Given as goal

abbrev pub invariant-loop-node : goal.invariant-loop-node
invariant-loop-node l = l.nodes.items ≡ map (relabelled l.numbers.items) (take l.node-index l.cut.nodes)
