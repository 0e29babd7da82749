use Rattle.std.proofs.Common.{◌-◌}
use Rattle.action_groups.specs.Sides.{leads}
use Rattle.action_groups.proofs.firsts.+split_first.Given as goal

abbrev pub decreases-split_first : goal.decreases-split_first
decreases-split_first l = leads l.order - l.place
