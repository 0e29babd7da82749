-- Who wins at a bound: a player with a machine, of any size, that keeps the bound on the player's automaton.
use Rattle.std.specs.Prelude.{◌≡◌, ℕ, ◌<◌, ◌≤◌, pos, length}
use Rattle.word_core.specs.declared.names.Names.{Names}
use Rattle.word_core.specs.declared.names.Player.{Player}
use Rattle.word_core.specs.declared.names.Player.TheVariants.{System, Environment}
use Rattle.word_core.specs.Automaton.{AutomatonData}
use Rattle.word_core.specs.Machine.{MachineData, IsMachine}
use Rattle.word_core.specs.Lasso.{LassoData}
use Rattle.word_core.specs.Play.{IsLassoPlay}
use Rattle.word_core.specs.Run.{Keeps, Accepts}
use Rattle.game_form.specs.Covering.{CoversLetters}
use Rattle.game_form.specs.Game.{GameData}
use Rattle.game_form.specs.Held.{IsHeld, IsMachineOf, KeepsFrom}
use Rattle.game_form.specs.Letters.{HasLetters}
use Rattle.game_form.specs.Vector.{initial}
use Rattle.dual_game.specs.declared.games.Pair.{Pair}
use Rattle.dual_game.specs.Games.{kind_of}

-- a machine of a player over these names, which moves when the target says
pub record IsMachineFor (names : Names) (who : Player) (m : MachineData) : Type 0 where
  pub machine : IsMachine m
  pub player : m.player ≡ who
  pub kind : m.kind ≡ kind_of who names.target
  pub inputs : m.inputs ≡ length names.inputs.items
  pub outputs : m.outputs ≡ length names.outputs.items

-- some machine of the player keeps the bound on the automaton
pub record Wins (a : AutomatonData) (names : Names) (who : Player) (k : ℕ) : Type 0 where
  pub machine : MachineData
  pub fits : IsMachineFor names who machine
  pub keeps : Keeps a machine k

-- a player's automaton
abbrev pub automaton_of : Pair → Player → AutomatonData
automaton_of pair System = pair.system
automaton_of pair Environment = pair.environment

-- no player wins at a bound
abbrev pub NobodyWins : Pair → Names → ℕ → Type 0
NobodyWins pair names k = (who : Player) → Wins (automaton_of pair who) names who k → ⊥

-- a game with another bound
abbrev pub with_bound : ℕ → GameData → GameData
with_bound k g = record g { k = pos k }

-- with each bound up to 10,000 the game decides who wins: each machine that keeps all lanes keeps the bound on the
-- automaton, and where the player wins the initial vector is held
pub record Decides (a : AutomatonData) (names : Names) (who : Player) (g : GameData) : Type 0 where
  pub letters : HasLetters g
  pub covers : CoversLetters g
  pub sound : (k : ℕ) (m : MachineData) → k ≤ 10000 → IsMachineOf (with_bound k g) m → KeepsFrom (with_bound k g) m 0 (initial g)
      → IsMachineFor names who m × Keeps a m k
  pub exact : (k : ℕ) → k ≤ 10000 → Wins a names who k → IsHeld (with_bound k g) (initial g)

-- each lasso is accepted by one of two automata
abbrev pub AreOpposed : AutomatonData → AutomatonData → Type 0
AreOpposed a b = (w : LassoData) → 0 < length w.cycle → (Accepts a w → ⊥) → (Accepts b w → ⊥) → ⊥

-- where each lasso is accepted by the automaton of one player, only one player wins, whatever the bounds
abbrev pub OnlyOneWins : Type 0
OnlyOneWins =
    (pair : Pair) (names : Names) (j k : ℕ) → AreOpposed pair.system pair.environment → Wins pair.system names System j → Wins pair.environment names Environment k → ⊥

-- a lasso on which a machine keeps a bound isn't accepted
abbrev pub KeptIsRefused : Type 0
KeptIsRefused = (a : AutomatonData) (m : MachineData) (w : LassoData) (k : ℕ) → Keeps a m k → IsLassoPlay m w → Accepts a w → ⊥
