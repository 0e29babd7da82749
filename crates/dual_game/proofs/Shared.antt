-- The game of the quotient has the machine of the whole game.
use Rattle.std.proofs.Common.{ℕ, ◌≤◌, List, map, sym, ◌∙◌}
use Rattle.word_core.specs.declared.names.Names.{Names}
use Rattle.word_core.specs.declared.names.Player.{Player}
use Rattle.word_core.specs.Automaton.{AutomatonData, IsAutomaton}
use Rattle.game_form.specs.Game.{GameData, IsGame}
use Rattle.nba_quotient.specs.Folding.{IsFolding}
use Rattle.dual_game.specs.Games.{IsGameOf}
use Rattle.dual_game.specs.Machines.{CountsFor, SharesMachine}
use Rattle.dual_game.specs.Winning.{with_bound}
use Rattle.dual_game.proofs.Alike.{AreAlike, lifted}
use Rattle.dual_game.proofs.Decided.{game_with}
use Rattle.dual_game.proofs.Lifting.{held_lifted, ascends_lifted, long_held}
use Rattle.dual_game.proofs.SameMachine.{machine_lifted}

alike_with : (a q : AutomatonData) (of : List ℕ) (names : Names) (who : Player) (bound k : ℕ) (g h : GameData) → IsAutomaton a → IsFolding a of q → IsGame h → IsGameOf q names who bound h
    → k ≤ 10000 → CountsFor a names who k g → AreAlike a q of g (with_bound k h)
alike_with a q of names who bound k g h automaton folding small is le whole = record {
  automaton = automaton;
  folding = folding;
  whole = whole.game;
  small = game_with h k small le;
  player = is.player ∙ sym whole.player;
  kind = is.kind ∙ sym whole.kind;
  inputs = is.inputs ∙ sym whole.inputs;
  outputs = is.outputs ∙ sym whole.outputs;
  bounds = sym whole.bound;
  whole_init = whole.init;
  small_init = is.init;
  whole_lanes = whole.lanes;
  small_lanes = is.lanes;
  whole_rows = whole.rows;
  small_rows = is.rows;
}

pub shared : (a q : AutomatonData) (of : List ℕ) (names : Names) (who : Player) (bound : ℕ) (h : GameData) → IsAutomaton a → IsFolding a of q → IsGame h → IsGameOf q names who bound h → SharesMachine a names who h
shared a q of names who bound h automaton folding small is k states le made g whole =
    let alike = alike_with a q of names who bound k g h automaton folding small is le whole in
    let long = long_held a q of g (with_bound k h) alike made.vectors made.held in
    record {
      vectors = map (lifted of) made.vectors;
      held = held_lifted a q of g (with_bound k h) alike made.vectors made.held;
      ascending = ascends_lifted a q of g (with_bound k h) alike made.vectors long made.ascending;
      machine = machine_lifted a q of g (with_bound k h) alike made.vectors long states made.machine;
    }
