-- Rows that are made from steps.
use Rattle.std.specs.Prelude.{◌≡◌, ℕ, ◌+◌, ◌<◌, ◌≤◌, Bool, false, List, length, drop, slice_index_or}
use Rattle.game_form.specs.declared.actions.Step.{Step}
use Rattle.game_form.specs.Game.{row_at}
use Rattle.game_form.specs.Vector.{number}
use Rattle.action_groups.specs.Numbers.{steps_number}

-- from a place on all steps leave a lane or later ones
abbrev pub AreLater : List (ℕ × ℕ × Bool) → ℕ → ℕ → Type 0
AreLater steps at lane = (k : ℕ) → at ≤ k → k < length steps → lane ≤ (slice_index_or steps k (0, 0, false)).0

-- the row of a lane from a place of the steps on, and where the steps of later lanes begin
pub record IsRowOf (steps : List (ℕ × ℕ × Bool)) (at lane : ℕ) (row : List Step) (behind : ℕ) : Type 0 where
  pub numbers : (p : ℕ) → number row p ≡ steps_number (drop at steps) lane p
  pub others : (q p : ℕ) → (lane ≡ q → ⊥) → steps_number (drop behind steps) q p ≡ steps_number (drop at steps) q p
  pub later : AreLater steps behind (lane + 1)

-- the rows have the numbers of the steps
abbrev pub HasNumbers : List (ℕ × ℕ × Bool) → List (List Step) → Type 0
HasNumbers steps rows = (q p : ℕ) → q < length rows → number (row_at rows q) p ≡ steps_number steps q p
