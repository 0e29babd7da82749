use Rattle.std.proofs.Common.{ℕ, ◌<◌, ◌≤◌}
use Rattle.game_form.specs.Game.{action_at, row_at}
use Rattle.game_form.specs.Vector.{number}
use Rattle.game_core.proofs.plans.action_at_most.Given as goal

abbrev pub invariant-loop-q : goal.invariant-loop-q
invariant-loop-q l = (k p : ℕ) → k < l.q → number (row_at (action_at l.g l.a) k) p ≤ number (row_at (action_at l.g l.b) k) p
