-- A step put at the end of a row.
use Rattle.std.proofs.Common.{ℕ, suc, ◌<◌, ◌≤◌, List, [], ◌∷◌, ◌++◌, arith}
use Rattle.std.specs.Prelude.{pos, ◌≤ℤ◌}
use Rattle.game_form.specs.declared.actions.Step.{Step}
use Rattle.game_form.specs.Game.{IsRow}
use Rattle.action_groups.specs.Row.{EndsBelow}

pub row_pushed : (lanes low next : ℕ) (xs : List Step) (s : Step) → IsRow lanes low xs → EndsBelow next xs → next ≤ s.to → low ≤ s.to → s.to < lanes → pos 1 ≤ℤ s.number → s.number ≤ℤ pos 2 → IsRow lanes low (xs ++ s ∷ [])
row_pushed lanes low next [] s h e behind le lt one two = (le, lt, one, two, tt)
row_pushed lanes low next (x ∷ xs) s h e behind le lt one two =
    (h.0, h.1, h.2, h.3, row_pushed lanes (suc x.to) next xs s h.4 e.1 behind (omega (arith, e.0)) lt one two)

pub ends_pushed : (next more : ℕ) (xs : List Step) (s : Step) → EndsBelow next xs → next ≤ more → s.to < more → EndsBelow more (xs ++ s ∷ [])
ends_pushed next more [] s e le lt = (lt, tt)
ends_pushed next more (x ∷ xs) s e le lt = (omega (arith, e.0), ends_pushed next more xs s e.1 le lt)
