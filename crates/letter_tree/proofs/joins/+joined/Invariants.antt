use Rattle.std.proofs.Common.{◌+◌}
use Rattle.letter_tree.proofs.joins.+joined.Given as goal

abbrev pub decreases-joined : goal.decreases-joined
decreases-joined g l = l.x + l.y
