-- The game of a wire, whose output is to equal its input. The tests work on it.
use Rattle.std.specs.Prelude.{pos, List, [], ◌∷◌, Some}
use Rattle.word_core.specs.declared.names.Kind.TheVariants.{Second}
use Rattle.word_core.specs.declared.names.Player.TheVariants.{System}
use Rattle.word_core.specs.declared.branches.Branch.TheVariants.{Leaf, Split}
use Rattle.game_form.specs.declared.actions.Step.{Step}
use Rattle.game_form.specs.Game.{GameData}

-- the one way into lane 1, where every step is counted
abbrev pub counted : List Step
counted = record { to = 1; number = pos 2 } ∷ []

-- lane 1 is entered from lane 0 where output and input differ
abbrev pub wire_game : GameData
wire_game = record {
  player = System;
  kind = Second;
  inputs = 1;
  outputs = 1;
  k = pos 0;
  init = Some 0;
  actions = ([] ∷ counted ∷ []) ∷ (counted ∷ counted ∷ []) ∷ [];
  classes = record { least = 0; options = (0, 0) ∷ (1, 1) ∷ [] } ∷ record { least = 1; options = (1, 0) ∷ (0, 1) ∷ [] } ∷ [];
  letters = Leaf 0 ∷ Leaf 1 ∷ Split 0 0 1 ∷ Split 0 1 0 ∷ Split 1 2 3 ∷ [];
  firsts = Leaf 0 ∷ Leaf 1 ∷ Split 0 0 1 ∷ [];
}
