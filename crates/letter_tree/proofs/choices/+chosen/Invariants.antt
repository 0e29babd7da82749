use Rattle.std.proofs.Common.{◌+◌}
use Rattle.letter_tree.proofs.choices.+chosen.Given as goal

abbrev pub decreases-chosen : goal.decreases-chosen
decreases-chosen l = l.low + l.high
