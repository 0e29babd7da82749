-- What a solver may begin with.
use Rattle.std.specs.Prelude.{ℕ, ℤ, ◌+◌, Bool, pos, List}
use Rattle.std.specs.List.{All, AllPairs}
use Rattle.game_form.specs.Game.{GameData}
use Rattle.game_form.specs.Vector.{IsVector, bound}
use Rattle.game_core.specs.Front.{IsApart}
use Rattle.game_core.specs.Solved.{Covers, IsLost, IsSettled}
use Rattle.game_core.specs.declared.solvers.Attempt.{Attempt}
use Rattle.game_core.specs.declared.solvers.Attempt.TheVariants.{Held, Lost}

-- vectors of the game, no two of them comparable, at or above all that the player can hold
pub record IsStart (g : GameData) (list : List (List ℤ)) : Type 0 where
  pub vectors : All (IsVector g) list
  pub apart : AllPairs IsApart list
  pub covers : Covers g list

-- the same game with a greater bound
abbrev pub raised_by : ℕ → GameData → GameData
raised_by by g = record g { k = pos (bound g + by) }

-- the greatest closed list, or else that the initial vector isn't held, with what was left
abbrev pub IsAttempt : GameData → Bool → Attempt → Type 0
IsAttempt g whole (Held list) = IsSettled g whole list
IsAttempt g whole (Lost left) = IsLost g whole × IsStart g left.items
