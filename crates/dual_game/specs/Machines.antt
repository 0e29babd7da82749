-- The machine of the maximal held vectors.
use Rattle.std.specs.Prelude.{◌≡◌, ℕ, ◌≤◌, ℤ, pos, List, length}
use Rattle.word_core.specs.declared.machines.Line.{Line}
use Rattle.word_core.specs.declared.names.Names.{Names}
use Rattle.word_core.specs.declared.names.Player.{Player}
use Rattle.word_core.specs.Automaton.{AutomatonData, IsAutomaton}
use Rattle.antichain_list.specs.Antichain.{IsAntichain}
use Rattle.counter_vec.specs.Counters.{at_or_below, lexicographic}
use Rattle.game_form.specs.Game.{GameData, IsGame, lanes}
use Rattle.game_form.specs.Held.{HasHeld}
use Rattle.strategy_play.specs.Exact.{IsMachineOfList}
use Rattle.action_groups.specs.Rows.{HasRows}
use Rattle.tlsf_basic.specs.Specification.{signal_count}
use Rattle.dual_game.specs.Games.{kind_of}
use Rattle.dual_game.specs.Winning.{with_bound}

-- the states of the machine of the maximal held vectors of a game, in ascending order
pub record IsMachineOfHeld (g : GameData) (states : List (List Line)) : Type 0 where
  pub vectors : List (List ℤ)
  pub held : HasHeld g vectors
  pub ascending : IsAntichain at_or_below lexicographic vectors
  pub machine : IsMachineOfList g vectors states

-- a game over these names for a player, with a bound, that counts on an automaton: its lanes are the automaton's states, and its
-- rows have the numbers of the edges, whatever its actions and classes are
pub record CountsFor (a : AutomatonData) (names : Names) (who : Player) (k : ℕ) (g : GameData) : Type 0 where
  pub game : IsGame g
  pub player : g.player ≡ who
  pub kind : g.kind ≡ kind_of who names.target
  pub inputs : g.inputs ≡ length names.inputs.items
  pub outputs : g.outputs ≡ length names.outputs.items
  pub bound : g.k ≡ pos k
  pub init : g.init ≡ a.init
  pub lanes : lanes g ≡ length a.states
  pub rows : HasRows a g

-- the machine of the maximal held vectors in each game that counts on an automaton
abbrev pub IsMachineOfWhole : AutomatonData → Names → Player → ℕ → List (List Line) → Type 0
IsMachineOfWhole a names who k states = (g : GameData) → CountsFor a names who k g → IsMachineOfHeld g states

-- with each bound up to 10,000 a game has the machine of the whole game of an automaton
abbrev pub SharesMachine : AutomatonData → Names → Player → GameData → Type 0
SharesMachine a names who g = (k : ℕ) (states : List (List Line)) → k ≤ 10000 → IsMachineOfHeld (with_bound k g) states → IsMachineOfWhole a names who k states

-- the maximal held vectors of a game have one ascending list
abbrev pub HeldListIsOne : Type 0
HeldListIsOne =
    (g : GameData) (u v : List (List ℤ)) → HasHeld g u → HasHeld g v → IsAntichain at_or_below lexicographic u → IsAntichain at_or_below lexicographic v → u ≡ v

-- the maximal held vectors of a game have one machine
abbrev pub HeldMachineIsOne : Type 0
HeldMachineIsOne = (g : GameData) (states others : List (List Line)) → IsMachineOfHeld g states → IsMachineOfHeld g others → states ≡ others

-- an automaton has, over at most 40 signals, for each player and bound up to 10,000 at most one machine of the maximal held vectors
abbrev pub WholeMachineIsOne : Type 0
WholeMachineIsOne =
    (a : AutomatonData) (names : Names) (who : Player) (k : ℕ) (states others : List (List Line)) → IsAutomaton a → signal_count names ≤ 40 → k ≤ 10000
    → IsMachineOfWhole a names who k states → IsMachineOfWhole a names who k others → states ≡ others
