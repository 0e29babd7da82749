use Rattle.tableau_nba.proofs.Runs.{accepts_by_truth}
use Rattle.tableau_nba.proofs.laws.accepts_by_truth.Goals as goal

pub returns : goal.returns
returns c = accepts_by_truth
