-- The numbers so far are from -1 to the bound.
use Rattle.std.proofs.Common.{ℕ, ◌<◌}
use Rattle.std.specs.Prelude.{negsuc, ◌≤ℤ◌}
use Rattle.game_form.specs.Vector.{lane}
use Rattle.layer_trials.proofs.layer_vectors.is_vector.Given as goal

abbrev pub invariant-loop-number : goal.invariant-loop-number
invariant-loop-number l = (p : ℕ) → p < l.number-index → (negsuc 0 ≤ℤ lane l.lanes p) × (lane l.lanes p ≤ℤ l.k)
