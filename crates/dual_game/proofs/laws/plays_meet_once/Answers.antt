use Rattle.dual_game.proofs.Meeting.{plays_meet_once}
use Rattle.dual_game.proofs.laws.plays_meet_once.Goals as goal

pub returns : goal.returns
returns c = plays_meet_once
