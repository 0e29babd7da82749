use Rattle.dual_game.proofs.Avoiding.{avoids_result, walk_limits}
use Rattle.dual_game.proofs.games.automaton.Goals as goal

pub returns-clause-made : goal.returns-clause-made
returns-clause-made c =
    avoids_result c.args.s.now c.args.player c.in_ok-normal.normal.nodes c.in_ok-normal.normal.root c.in_ok-normal.ensures.normal c.signals_of.result c.signals_of.ensures c.in_ok-normal.ensures.meaning
    c.trimmed.result c.trimmed.ensures.tableau c.trimmed.ensures.accepts

pub returns-clause-limit : goal.returns-clause-limit
returns-clause-limit c =
    walk_limits c.args.s.now c.args.player c.in_ok-normal.normal.nodes c.in_ok-normal.normal.root c.in_ok-normal.ensures.normal c.signals_of.result c.signals_of.ensures
    c.trimmed.result c.trimmed.ensures.limit
