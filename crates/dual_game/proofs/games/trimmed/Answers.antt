use Rattle.dual_game.proofs.Avoiding.{trimmed_accepts, trimmed_tableau}
use Rattle.dual_game.proofs.games.trimmed.Goals as goal

pub returns-clause-accepts : goal.returns-clause-accepts
returns-clause-accepts c = trimmed_accepts c.args.f.now.nodes c.args.f.now.root c.in_ok-whole.whole c.in_ok-least.least c.in_ok-whole.ensures.accepts c.in_ok-least.ensures.accepts

pub returns-clause-tableau : goal.returns-clause-tableau
returns-clause-tableau c =
    let v = c.in_ok-whole.ensures.value in
    trimmed_tableau c.args.f.now.nodes c.args.f.now.root c.args.signals c.in_ok-whole.whole c.in_ok-least.least v.0 v.1 v.2 c.in_ok-least.ensures.exact c.states.ensures.valid
