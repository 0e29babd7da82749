-- What remains of an entry, and of a list of entries.
use Rattle.std.specs.Prelude.{◌≡◌, ℤ, true, List}
use Rattle.std.specs.List.{All, AllPairs}
use Rattle.game_form.specs.Game.{GameData}
use Rattle.game_form.specs.Vector.{IsVector}
use Rattle.counter_vec.specs.Counters.{at_or_below}
use Rattle.cpre_step.specs.Refinement.{answers}
use Rattle.game_core.specs.Front.{IsApart, IsPiece, under}

-- pieces of f, no two of them comparable, one at or above each vector at or below f from which the player can answer
pub record AreRemains (g : GameData) (vs : List (List ℤ)) (f : List ℤ) (pieces : List (List ℤ)) : Type 0 where
  pub below : All (IsPiece f) pieces
  pub apart : AllPairs IsApart pieces
  pub whole : (u : List ℤ) → IsVector g u → at_or_below u f ≡ true → answers g vs u ≡ true → under pieces u ≡ true

-- what is at or below a member of vs, and from which the player can answer, is at or below a member of ws
abbrev pub KeepsAnswered : GameData → List (List ℤ) → List (List ℤ) → Type 0
KeepsAnswered g vs ws = (u : List ℤ) → IsVector g u → under vs u ≡ true → answers g vs u ≡ true → under ws u ≡ true
