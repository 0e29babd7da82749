use Rattle.dual_game.proofs.Decided.{decides}
use Rattle.dual_game.proofs.InOrder.{in_order}
use Rattle.dual_game.proofs.Shared.{shared}
use Rattle.dual_game.proofs.quotient_games.quotient_game.Goals as goal

pub returns-clause-decides : goal.returns-clause-decides
returns-clause-decides c =
    decides c.args.a.now c.in_ok-quotient.quotient c.args.names.now c.args.player c.args.k c.in_ok-small.small
    c.states.ensures.valid c.known.ensures c.in_ok-small.ensures c.in_ok-quotient.ensures.kept c.in_ok-quotient.ensures.keeps

pub returns-clause-order : goal.returns-clause-order
returns-clause-order c = in_order c.in_ok-quotient.quotient c.in_ok-small.small c.known.ensures c.in_ok-small.ensures.grouped

pub returns-clause-machine : goal.returns-clause-machine
returns-clause-machine c =
    let folding = c.in_ok-quotient.ensures.folding in
    shared c.args.a.now c.in_ok-quotient.quotient folding.0 c.args.names.now c.args.player c.args.k c.in_ok-small.small
    c.states-2.ensures.valid folding.1 c.known.ensures c.in_ok-small.ensures
