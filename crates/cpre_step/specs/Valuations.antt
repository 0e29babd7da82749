-- What refining a vector answers, in terms of single valuations.
use Rattle.std.specs.Prelude.{ℤ, ◌↔◌, List}
use Rattle.antichain_list.specs.Antichain.{IsAntichain}
use Rattle.counter_vec.specs.Counters.{at_or_below, lexicographic}
use Rattle.game_form.specs.Game.{GameData}
use Rattle.game_form.specs.Vector.{AtOrBelow, IsVector}
use Rattle.game_form.specs.Predecessor.{Covered, InPredecessor}
use Rattle.cpre_step.specs.Refinement.{AreVectors}
use Rattle.cpre_step.specs.declared.refines.Refined.{Refined}
use Rattle.cpre_step.specs.declared.refines.Refined.TheVariants.{Kept, Shrunk}

-- exactly the maximal vectors at or below f that are in the predecessor, ascending
pub record AreMaximal (g : GameData) (list : List (List ℤ)) (f : List ℤ) (left : List (List ℤ)) : Type 0 where
  pub vectors : AreVectors g left
  pub antichain : IsAntichain at_or_below lexicographic left
  pub covers : (u : List ℤ) → IsVector g u → Covered left u ↔ (AtOrBelow u f × InPredecessor g list u)

-- f is kept where it is in the predecessor, and else what is left below it is given
abbrev pub RefinesByValuations : GameData → List (List ℤ) → List ℤ → Refined → Type 0
RefinesByValuations g list f Kept = InPredecessor g list f
RefinesByValuations g list f (Shrunk left) = (InPredecessor g list f → ⊥) × AreMaximal g list f left.items
