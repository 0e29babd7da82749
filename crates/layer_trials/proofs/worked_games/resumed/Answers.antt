-- The maximal held vectors are at or above all that is held.
use Rattle.std.proofs.Common.{List}
use Rattle.game_core.proofs.Exact.{covered_back}
use Rattle.layer_trials.proofs.worked_games.resumed.Goals as goal

pub resume-requires-clause-covers : goal.resume-requires-clause-covers
resume-requires-clause-covers c = record { all = λ covers v held. covered_back c.args.list v ((c.requires.settled.exact c.requires.letters covers).all v held) }
