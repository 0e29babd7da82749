use Rattle.std.proofs.Common.{◌≡◌, length}
use Rattle.std.specs.List.{All}
use Rattle.action_groups.specs.Actions.{AreActionsOf}
use Rattle.action_groups.specs.Row.{AreRows}
use Rattle.action_groups.proofs.games.actions.Given as goal

abbrev pub invariant-loop-label : goal.invariant-loop-label
invariant-loop-label l =
    AreActionsOf l.count l.letters.effects.keys l.label-index l.labels.order.items l.actions.items
    × (length l.actions.items ≡ l.label-index) × All (AreRows l.count) l.actions.items
