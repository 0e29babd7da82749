-- What is found at one bound.
use Rattle.std.specs.Prelude.{◌⊎◌}
use Rattle.game_form.specs.Game.{GameData}
use Rattle.game_core.specs.Start.{IsStart}
use Rattle.bonsai_run.specs.declared.verdicts.Side.{Side}
use Rattle.bonsai_run.specs.declared.verdicts.Side.TheVariants as side
use Rattle.bonsai_run.specs.declared.verdicts.Starts.{Starts}
use Rattle.bonsai_run.specs.declared.verdicts.Turn.{Turn}
use Rattle.bonsai_run.specs.declared.verdicts.Turn.TheVariants as turn
use Rattle.bonsai_run.specs.Winners.{IsWinner, IsLost}

-- each game can be solved from its vectors
pub record AreStarts (g h : GameData) (s : Starts) : Type 0 where
  pub system : IsStart g s.system.items
  pub environment : IsStart h s.environment.items

-- a machine that wins the game, or none where there is none, with what the game can be solved from
abbrev pub IsSide : GameData → Side → Type 0
IsSide g (side.Won m) = IsWinner g m
IsSide g (side.Lost left) = IsLost g × IsStart g left.items

abbrev pub IsTurn : GameData → GameData → Turn → Type 0
IsTurn g h (turn.Won m) = IsWinner g m ⊎ IsWinner h m
IsTurn g h (turn.Lost s) = IsLost g × IsLost h × AreStarts g h s
