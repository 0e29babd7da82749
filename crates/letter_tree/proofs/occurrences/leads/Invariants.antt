use Rattle.std.proofs.Common.{ℕ, ◌<◌}
use Rattle.std.specs.List.{slice_get}
use Rattle.letter_tree.specs.Leading.{PartEndsIn}
use Rattle.letter_tree.proofs.occurrences.leads.Given as goal

abbrev pub invariant-loop-place : goal.invariant-loop-place
invariant-loop-place l = (q : ℕ) → q < l.place → PartEndsIn l.width l.nodes l.signal l.bits l.label (slice_get l.nodes q) → ⊥
