use Rattle.std.proofs.Common.{◌≡◌, ◌<◌, length}
use Rattle.word_core.specs.Tree.{label_at, label_of}
use Rattle.word_core.proofs.branches.walk.Given as goal

abbrev pub invariant-loop-place : goal.invariant-loop-place
invariant-loop-place l = (l.place < length l.nodes) × (label_at l.nodes l.place l.bits ≡ label_of l.nodes l.bits)

abbrev pub decreases-loop-place : goal.decreases-loop-place
decreases-loop-place l = l.place
