use Rattle.std.proofs.Common.{◌+◌, ◌-◌}
use Rattle.action_groups.proofs.groups.+split_rest.Given as goal

abbrev pub decreases-split_rest : goal.decreases-split_rest
decreases-split_rest l = l.order.inputs + l.order.outputs - l.place
