-- States of the player's machine.
use Rattle.std.specs.Prelude.{◌≡◌, ℕ, List}
use Rattle.std.specs.List.{All}
use Rattle.word_core.specs.declared.names.Kind.TheVariants.{First}
use Rattle.word_core.specs.declared.machines.Line.{Line}
use Rattle.word_core.specs.Machine.{IsLine, IsDecided, HasOneOwn}
use Rattle.game_form.specs.Game.{GameData, own_width, other_width}
use Rattle.strategy_play.specs.Splitting.{AreSplit}

-- the lines of a state of the player's machine, each of which leads to one of so many places
pub record IsState (g : GameData) (count : ℕ) (lines : List Line) : Type 0 where
  pub ranged : All (IsLine (own_width g) (other_width g) count) lines
  pub decided : IsDecided (other_width g) lines
  pub first : g.kind ≡ First → HasOneOwn lines
  pub split : AreSplit (other_width g) lines
