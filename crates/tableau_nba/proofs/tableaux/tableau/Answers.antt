use Rattle.std.proofs.Common.{rules}
use Rattle.tableau_nba.proofs.Runs.{accepts_found}
use Rattle.tableau_nba.proofs.tableaux.tableau.Goals as goal

pub returns-clause-accepts : goal.returns-clause-accepts
returns-clause-accepts c = accepts_found c.args.f.now.nodes c.args.f.now.root c.args.signals c.in-Some.automaton c.nodes.ensures.normal (search rules)
