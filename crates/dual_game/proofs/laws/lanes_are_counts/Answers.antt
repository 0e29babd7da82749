use Rattle.dual_game.proofs.Reached.{lanes_are_counts}
use Rattle.dual_game.proofs.laws.lanes_are_counts.Goals as goal

pub returns : goal.returns
returns c = lanes_are_counts
