-- The entries of a solver, with their marks and notes.
use Rattle.std.specs.Prelude.{◌≡◌, ℕ, ℤ, Bool, List, length}
use Rattle.std.specs.List.{All, AllPairs}
use Rattle.game_form.specs.Game.{GameData}
use Rattle.game_form.specs.Vector.{IsVector}
use Rattle.game_core.specs.declared.fronts.Note.{Note}
use Rattle.game_core.specs.Front.{IsApart}
use Rattle.game_core.specs.Known.{HaveAnswers}

-- vectors of the game no two of which are comparable, a mark and a note for each
pub record AreEntries (g : GameData) (slots : ℕ) (vs : List (List ℤ)) (marks : List Bool) (ns : List Note) : Type 0 where
  pub vectors : All (IsVector g) vs
  pub apart : AllPairs IsApart vs
  pub pending : length marks ≡ length vs
  pub notes : length ns ≡ length vs
  pub answers : HaveAnswers slots ns
