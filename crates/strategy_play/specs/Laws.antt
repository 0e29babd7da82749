-- What holds of the machine of a list of vectors.
use Rattle.std.specs.Prelude.{◌≡◌, ℤ, List}
use Rattle.word_core.specs.declared.machines.Line.{Line}
use Rattle.game_form.specs.Game.{GameData}
use Rattle.strategy_play.specs.Exact.{IsMachineOfList}

-- a list of vectors of a game has at most one machine
abbrev pub MachineIsOne : Type 0
MachineIsOne = (g : GameData) (entries : List (List ℤ)) (states others : List (List Line)) → IsMachineOfList g entries states → IsMachineOfList g entries others → states ≡ others
