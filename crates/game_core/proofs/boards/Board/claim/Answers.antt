use Rattle.std.proofs.Common.{◌≡◌, ◌∙◌, ap, sym, subst}
use Rattle.game_form.specs.Game.{IsGame}
use Rattle.game_core.specs.Board.{BoardData, open_count}
use Rattle.game_core.proofs.Boarded.{board_closed, board_held}
use Rattle.game_core.proofs.boards.Board.claim.Goals as goal

pub returns-then-open-eq0-clause-closed : goal.returns-then-open-eq0-clause-closed
returns-then-open-eq0-clause-closed c =
    let none : open_count c.args.self.now.marks ≡ 0 = ap open_count (sym (c.deref.ensures.value ∙ ap (λ (b : BoardData). b.marks) c.self.view_is)) ∙ sym c.count_open-open.ensures ∙ c.if-open-eq0.true in
    board_closed c.args.self.now c.known.ensures none

pub returns-then-open-eq0-clause-held : goal.returns-then-open-eq0-clause-held
returns-then-open-eq0-clause-held c =
    let none : open_count c.args.self.now.marks ≡ 0 = ap open_count (sym (c.deref.ensures.value ∙ ap (λ (b : BoardData). b.marks) c.self.view_is)) ∙ sym c.count_open-open.ensures ∙ c.if-open-eq0.true in
    board_held c.args.self.now (subst IsGame (c.deref-then-open-eq0.ensures ∙ ap (λ (b : BoardData). b.game) c.self.view_is) c.known-then-open-eq0.ensures) c.known.ensures none
