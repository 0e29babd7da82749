use Rattle.std.proofs.Common.{◌≡◌, ◌<◌, true, false, length, get_or, sym, ◌∙◌, ap, subst}
use Rattle.std.proofs.lemmas.List.{get_or_default}
use Rattle.game_form.specs.Game.{IsGame}
use Rattle.cpre_step.proofs.ByValuations.{in_predecessor}
use Rattle.game_core.specs.Board.{BoardData, entry_at, mark_at}
use Rattle.game_core.proofs.boards.Board.fresh.Goals as goal

pub returns-clause-stays : goal.returns-clause-stays
returns-clause-stays c fresh letters =
    let known = c.known.ensures in
    let within : c.args.i < length c.args.self.now.marks = subst (λ n. c.args.i < n) (sym known.marks) c.requires in
    let marked : mark_at c.args.self.now.marks c.args.i ≡ true =
    get_or_default c.args.self.now.marks c.args.i false c.index.result.now within ∙ ap (λ (b : BoardData). get_or b.marks c.args.i c.index.result.now) (sym c.self.view_is) ∙ sym c.index.ensures ∙ fresh in
    in_predecessor c.args.self.now.game (subst IsGame (c.deref.ensures ∙ ap (λ (b : BoardData). b.game) c.self.view_is) c.known-2.ensures) c.args.self.now.list
    (entry_at c.args.self.now.list c.args.i) letters (known.fresh c.args.i c.requires marked)
