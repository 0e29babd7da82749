use Rattle.std.proofs.Common.{◌≡◌, drop}
use Rattle.game_form.specs.Vector.{number}
use Rattle.game_core.proofs.plans.leads_to.Given as goal

abbrev pub invariant-loop-step : goal.invariant-loop-step
invariant-loop-step l = number (drop l.step-index l.steps) l.to ≡ number l.steps l.to
