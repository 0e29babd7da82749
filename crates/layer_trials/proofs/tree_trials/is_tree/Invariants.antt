-- The nodes so far are nodes at their places.
use Rattle.std.proofs.Common.{ℕ, ◌<◌}
use Rattle.std.specs.Prelude.{slice_get}
use Rattle.word_core.specs.Tree.{IsNodeAt, TestsBelow}
use Rattle.layer_trials.proofs.tree_trials.is_tree.Given as goal

abbrev pub invariant-loop-place : goal.invariant-loop-place
invariant-loop-place l = (place : ℕ) → place < l.place → IsNodeAt place (slice_get l.list place) × TestsBelow l.width (slice_get l.list place)
