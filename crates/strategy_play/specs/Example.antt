-- Two games of two lanes. The tests play them.
use Rattle.std.specs.Prelude.{ℕ, ℤ, pos, negsuc, List, [], ◌∷◌, Some}
use Rattle.word_core.specs.declared.names.Kind.TheVariants.{First, Second}
use Rattle.word_core.specs.declared.names.Player.TheVariants.{System}
use Rattle.word_core.specs.declared.branches.Branch.TheVariants.{Leaf, Split}
use Rattle.game_form.specs.declared.actions.Step.{Step}
use Rattle.game_form.specs.Game.{GameData, ClassData}

abbrev pub step_of : ℕ → ℤ → Step
step_of to number = record { to = to; number = number }

-- both lanes lead to one lane
abbrev pub action_to : ℕ → ℤ → ℤ → List (List Step)
action_to to first second = (step_of to first ∷ []) ∷ (step_of to second ∷ []) ∷ []

abbrev pub one_class : ClassData
one_class = record { least = 0; options = (1, 0) ∷ (0, 1) ∷ [] }

-- a token goes to lane 1 where the output is 1, and else to lane 0; it is counted where it is there already
abbrev pub turns_game : GameData
turns_game = record {
  player = System;
  kind = Second;
  inputs = 1;
  outputs = 1;
  k = pos 0;
  init = Some 0;
  actions = action_to 1 (pos 1) (pos 2) ∷ action_to 0 (pos 2) (pos 1) ∷ [];
  classes = one_class ∷ [];
  letters = Leaf 1 ∷ Leaf 0 ∷ Split 1 0 1 ∷ [];
  firsts = Leaf 0 ∷ [];
}

-- where the output is 1 a token goes to lane 1 at the input 0, and to lane 0 at the input 1; else it is counted
abbrev pub led_game : GameData
led_game = record {
  player = System;
  kind = First;
  inputs = 1;
  outputs = 1;
  k = pos 0;
  init = Some 0;
  actions = action_to 1 (pos 1) (pos 1) ∷ action_to 0 (pos 1) (pos 1) ∷ action_to 0 (pos 2) (pos 2) ∷ [];
  classes = record { least = 0; options = (2, 0) ∷ [] } ∷ record { least = 1; options = (0, 0) ∷ (1, 1) ∷ [] } ∷ [];
  letters = Leaf 2 ∷ Leaf 0 ∷ Leaf 1 ∷ Split 1 1 2 ∷ Split 0 0 3 ∷ [];
  firsts = Leaf 0 ∷ Leaf 1 ∷ Split 0 0 1 ∷ [];
}

-- the token is in one of the lanes
abbrev pub in_lanes : List (List ℤ)
in_lanes = (negsuc 0 ∷ pos 0 ∷ []) ∷ (pos 0 ∷ negsuc 0 ∷ []) ∷ []
