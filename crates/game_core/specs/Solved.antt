-- What a solver answers.
use Rattle.std.specs.Prelude.{◌≡◌, ℕ, ℤ, ◌<◌, Bool, true, false, List, length}
use Rattle.std.specs.List.{All}
use Rattle.antichain_list.specs.Antichain.{covered}
use Rattle.counter_vec.specs.Counters.{at_or_below}
use Rattle.word_core.specs.Machine.{MachineData}
use Rattle.game_form.specs.Covering.{CoversLetters}
use Rattle.game_form.specs.Game.{GameData}
use Rattle.game_form.specs.Held.{HasHeld, IsHeld, IsMachineOf, KeepsFrom}
use Rattle.game_form.specs.Letters.{HasLetters}
use Rattle.game_form.specs.Vector.{IsVector, initial}
use Rattle.cpre_step.specs.Refinement.{AreVectors, answers}
use Rattle.game_core.specs.declared.solvers.Solved.{Solved}
use Rattle.game_core.specs.declared.solvers.Solved.TheVariants.{Held, Lost}

-- vectors of the game, from each of which the player can stay at or below one of them
pub record IsClosed (g : GameData) (list : List (List ℤ)) : Type 0 where
  pub vectors : AreVectors g list
  pub closed : All (λ f. answers g list f ≡ true) list

-- every vector of every closed list is at or below one of these
abbrev pub CoversClosed : GameData → List (List ℤ) → Type 0
CoversClosed g list = (other : List (List ℤ)) → IsClosed g other → All (λ f. covered at_or_below f list ≡ true) other

-- every vector from which a machine of the player, begun in some state, keeps the bound is at or below one of these
abbrev pub CoversKept : GameData → List (List ℤ) → Type 0
CoversKept g list =
    (m : MachineData) (s : ℕ) (u : List ℤ) → IsMachineOf g m → s < length m.states → IsVector g u → KeepsFrom g m s u → covered at_or_below u list ≡ true

-- a list is at or above both
pub record Covers (g : GameData) (list : List (List ℤ)) : Type 0 where
  pub closed : CoversClosed g list
  pub kept : CoversLetters g → CoversKept g list

-- the greatest closed list, which is exactly the maximal held vectors; where only the initial vector is asked for, one is at or above it
pub record IsSettled (g : GameData) (whole : Bool) (list : List (List ℤ)) : Type 0 where
  pub vectors : AreVectors g list
  pub closed : All (λ f. answers g list f ≡ true) list
  pub largest : CoversClosed g list
  pub exact : HasLetters g → CoversLetters g → HasHeld g list
  pub begins : whole ≡ false → covered at_or_below (initial g) list ≡ true

-- no closed list has a vector at or above the initial one, which alone was asked for; it isn't held
pub record IsLost (g : GameData) (whole : Bool) : Type 0 where
  pub asked : whole ≡ false
  pub missed : (list : List (List ℤ)) → IsClosed g list → covered at_or_below (initial g) list ≡ false
  pub not_held : CoversLetters g → IsHeld g (initial g) → ⊥

abbrev pub IsSolution : GameData → Bool → Solved → Type 0
IsSolution g whole (Held list) = IsSettled g whole list
IsSolution g whole Lost = IsLost g whole
