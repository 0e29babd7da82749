-- Who moves first, and the game of an automaton.
use Rattle.std.specs.Prelude.{◌≡◌, ℕ, pos, length}
use Rattle.word_core.specs.declared.names.Kind.{Kind}
use Rattle.word_core.specs.declared.names.Kind.TheVariants.{First, Second}
use Rattle.word_core.specs.declared.names.Player.{Player}
use Rattle.word_core.specs.declared.names.Player.TheVariants.{System, Environment}
use Rattle.word_core.specs.declared.names.Target.{Target}
use Rattle.word_core.specs.declared.names.Target.TheVariants.{Mealy, Moore}
use Rattle.word_core.specs.declared.names.Names.{Names}
use Rattle.word_core.specs.Automaton.{AutomatonData}
use Rattle.game_form.specs.Game.{GameData, lanes}
use Rattle.game_form.specs.Covering.{CoversLetters}
use Rattle.game_form.specs.Letters.{HasLetters}
use Rattle.action_groups.specs.Grouped.{IsGrouped}
use Rattle.action_groups.specs.Rows.{HasRows}

-- under Mealy the system sees the inputs of a step before it chooses, under Moore the environment sees the outputs
abbrev pub kind_of : Player → Target → Kind
kind_of System Mealy = Second
kind_of System Moore = First
kind_of Environment Mealy = First
kind_of Environment Moore = Second

-- the game of an automaton over these names for a player, with a bound; its actions, classes and options are those of its letters, numbered by the least ones, and its rows have the numbers of the edges
pub record IsGameOf (a : AutomatonData) (names : Names) (who : Player) (k : ℕ) (g : GameData) : Type 0 where
  pub player : g.player ≡ who
  pub kind : g.kind ≡ kind_of who names.target
  pub inputs : g.inputs ≡ length names.inputs.items
  pub outputs : g.outputs ≡ length names.outputs.items
  pub bound : g.k ≡ pos k
  pub init : g.init ≡ a.init
  pub lanes : lanes g ≡ length a.states
  pub letters : HasLetters g
  pub covers : CoversLetters g
  pub rows : HasRows a g
  pub grouped : IsGrouped a g
