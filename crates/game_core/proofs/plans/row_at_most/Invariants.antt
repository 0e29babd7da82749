use Rattle.std.proofs.Common.{ℕ, ◌<◌, ◌≤◌, slice_index_or}
use Rattle.game_form.specs.declared.actions.Step.{Step}
use Rattle.game_form.specs.Vector.{number, size_of}
use Rattle.game_core.proofs.plans.row_at_most.Given as goal

abbrev pub invariant-loop-step : goal.invariant-loop-step
invariant-loop-step l = (k : ℕ) (d : Step) → k < l.step-index → size_of (slice_index_or l.a k d).number ≤ number l.b (slice_index_or l.a k d).to
