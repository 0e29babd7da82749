-- The numbers so far are at least -1.
use Rattle.std.proofs.Common.{ℕ, ◌<◌}
use Rattle.std.specs.Prelude.{negsuc, ◌≤ℤ◌}
use Rattle.game_form.specs.Vector.{lane}
use Rattle.layer_trials.proofs.layer_vectors.are_counters.Given as goal

abbrev pub invariant-loop-number : goal.invariant-loop-number
invariant-loop-number l = (p : ℕ) → p < l.number-index → negsuc 0 ≤ℤ lane l.lanes p
