-- What refining a vector answers.
use Rattle.std.specs.Prelude.{◌≡◌, ℤ, true, false, List}
use Rattle.game_form.specs.Game.{GameData}
use Rattle.cpre_step.specs.Refinement.{AreLeft, answers}
use Rattle.cpre_step.specs.declared.refines.Refined.{Refined}
use Rattle.cpre_step.specs.declared.refines.Refined.TheVariants.{Kept, Shrunk}

-- f is kept where the player can answer from it, and else what is left below it is given
abbrev pub Refines : GameData → List (List ℤ) → List ℤ → Refined → Type 0
Refines g list f Kept = answers g list f ≡ true
Refines g list f (Shrunk left) = (answers g list f ≡ false) × AreLeft g list f left.items
