use Rattle.std.proofs.Common.{◌-◌}
use Rattle.letter_tree.proofs.trees.+cubed.Given as goal

abbrev pub decreases-cubed : goal.decreases-cubed
decreases-cubed l = l.table.now.width - l.signal
