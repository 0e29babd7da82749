use Rattle.std.proofs.Common.{sym, subst}
use Rattle.game_form.specs.Covering.{CoversLetters}
use Rattle.game_form.specs.Game.{GameData, IsGame}
use Rattle.game_form.specs.Letters.{HasLetters}
use Rattle.game_core.specs.Solved.{Covers, IsSolution}
use Rattle.game_core.proofs.Boarded.{covers_from_held}
use Rattle.game_core.proofs.Weaker.{ok_weaker}
use Rattle.game_core.proofs.finishes.finish.Goals as goal

pub returns-clause-held : goal.returns-clause-held
returns-clause-held c =
    let g = c.args.b.game in
    let after = c.run.new.b in
    ok_weaker (λ s. Covers after.game after.list → IsSolution after.game c.args.whole s) (λ s. HasLetters g → CoversLetters g → IsSolution g c.args.whole s) c.answer_of.result
    (λ s h letters covering.
    subst (λ (k : GameData). IsSolution k c.args.whole s) c.run.ensures.game
    (h (subst (λ (k : GameData). Covers k after.list) (sym c.run.ensures.game)
    (c.run.ensures.covers (covers_from_held g c.args.b.list (subst IsGame c.game.ensures c.known-2.ensures) letters covering c.known.ensures.covers)))))
    c.answer_of.ensures.solution
