use Rattle.std.proofs.Common.{◌≡◌, ◌∙◌, ap, [], ◌∷◌, List, false, subst}
use Rattle.std.specs.Prelude.{ℤ}
use Rattle.game_form.specs.Vector.{top}
use Rattle.game_form.specs.Game.{IsGame}
use Rattle.game_core.proofs.Boarded.{opened_as}
use Rattle.game_core.proofs.boards.Board.open.Goals as goal

pub invariant_of-result : goal.invariant_of-result
invariant_of-result c =
    let top_is : c.in_ok-top.top ≡ top c.args.g.value = c.in_ok-top.ensures ∙ ap top c.deref-2.ensures in
    let list : c.in_ok-list.list.value ≡ top c.args.g.value ∷ [] = c.in_ok-list.ensures.ok ∙ c.from_entries-list.ensures ∙ c.in_ok-vec.ensures.items ∙ ap (λ (v : List ℤ). v ∷ []) top_is in
    let marks : c.in_ok-marks.marks.items ≡ false ∷ [] = c.in_ok-marks.ensures.items in
    opened_as c.args.g.value c.in_ok-list.list.value c.in_ok-marks.marks.items (subst IsGame c.deref.ensures c.known.ensures) list marks
