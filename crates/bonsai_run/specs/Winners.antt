-- Machines that win games.
use Rattle.std.specs.Prelude.{◌⊎◌, Option, Some, None}
use Rattle.word_core.specs.Machine.{MachineData}
use Rattle.game_form.specs.Game.{GameData}
use Rattle.game_form.specs.Held.{IsHeld, IsMachineOf, KeepsFrom}
use Rattle.game_form.specs.Vector.{initial}
use Rattle.dual_game.specs.Machines.{IsMachineOfHeld}

-- the machine of the maximal held vectors, of the game's player; it keeps every lane at most at the bound
abbrev pub IsWinner : GameData → MachineData → Type 0
IsWinner g m = IsMachineOf g m × KeepsFrom g m 0 (initial g) × IsMachineOfHeld g m.states

-- no machine does
abbrev pub IsLost : GameData → Type 0
IsLost g = IsHeld g (initial g) → ⊥

-- a machine that wins one of two games, or none where there is none for either
abbrev pub IsFoundOfTwo : GameData → GameData → Option MachineData → Type 0
IsFoundOfTwo g h (Some m) = IsWinner g m ⊎ IsWinner h m
IsFoundOfTwo g h None = IsLost g × IsLost h
