use Rattle.std.proofs.Common.{◌∙◌, sym, subst}
use Rattle.game_form.specs.Game.{IsGame}
use Rattle.game_core.specs.Rounds.{Stopped}
use Rattle.game_core.specs.Solved.{IsSettled}
use Rattle.game_core.proofs.Boarded.{board_settled}
use Rattle.game_core.proofs.Greatest.{lost}
use Rattle.game_core.proofs.finishes.answer_of.Goals as goal

pub returns-then-lost-clause-solution : goal.returns-then-lost-clause-solution
returns-then-lost-clause-solution c = λ covers.
    let stopped = subst (λ l. Stopped c.args.whole l c.args.b.now) c.if-lost.true c.requires in
    lost c.args.b.now.game c.args.whole c.args.b.now.list covers stopped.0 stopped.1

pub returns-clause-solution : goal.returns-clause-solution
returns-clause-solution c = λ covers.
    let stopped = subst (λ l. Stopped c.args.whole l c.args.b.now) c.if-lost.false c.requires in
    subst (IsSettled c.args.b.now.game c.args.whole) (sym (c.in_ok-copy.ensures ∙ c.entries.ensures))
    (board_settled c.args.b.now c.args.whole (subst IsGame c.game.ensures c.known-2.ensures) c.known.ensures stopped.0 covers stopped.1)
