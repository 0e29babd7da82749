-- Rows of actions.
use Rattle.std.specs.Prelude.{◌≡◌, ℕ, ◌<◌, List, [], ◌∷◌, length}
use Rattle.std.specs.List.{All}
use Rattle.game_form.specs.declared.actions.Step.{Step}
use Rattle.game_form.specs.Game.{IsRow}

-- each step leads below
abbrev pub EndsBelow : ℕ → List Step → Type 0
EndsBelow next [] = Unit {0}
EndsBelow next (s ∷ rest) = (s.to < next) × EndsBelow next rest

-- one row per lane
abbrev pub AreRows : ℕ → List (List Step) → Type 0
AreRows lanes rows = (length rows ≡ lanes) × All (IsRow lanes 0) rows
