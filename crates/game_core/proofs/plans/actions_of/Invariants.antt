use Rattle.std.proofs.Common.{◌≡◌, map, take}
use Rattle.game_core.proofs.plans.actions_of.Given as goal

abbrev pub invariant-loop-action : goal.invariant-loop-action
invariant-loop-action l = l.actions.items ≡ map (λ o. o.0) (take l.action-index l.class.options)
