use Rattle.letter_tree.specs.Leading.{IsBegun}
use Rattle.letter_tree.proofs.occurrences.least.Given as goal

abbrev pub invariant-loop-signal : goal.invariant-loop-signal
invariant-loop-signal l = IsBegun l.t.width l.t.nodes l.label l.signal l.found
