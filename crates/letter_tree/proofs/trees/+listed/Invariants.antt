use Rattle.std.proofs.Common.{◌-◌}
use Rattle.letter_tree.proofs.trees.+listed.Given as goal

abbrev pub decreases-listed : goal.decreases-listed
decreases-listed l = l.table.now.width - l.signal
