-- What is known of a game that is made, together.
use Rattle.std.proofs.Common.{◌≡◌, ℕ, length}
use Rattle.std.specs.Prelude.{Result, Ok, Err, IfOk, pos}
use Rattle.word_core.specs.declared.names.Names.{Names}
use Rattle.word_core.specs.declared.names.Player.{Player}
use Rattle.word_core.specs.Automaton.{AutomatonData}
use Rattle.game_form.specs.Covering.{CoversLetters}
use Rattle.game_form.specs.Game.{GameData, lanes}
use Rattle.game_form.specs.Letters.{HasLetters}
use Rattle.action_groups.specs.Grouped.{IsGrouped}
use Rattle.action_groups.specs.Rows.{HasRows}
use Rattle.dual_game.specs.Games.{kind_of, IsGameOf}

pub game_of : {E : Type 0} (a : AutomatonData) (names : Names) (who : Player) (k : ℕ) (r : Result GameData E) → IfOk r (λ g. g.player ≡ who) → IfOk r (λ g. g.kind ≡ kind_of who names.target)
    → IfOk r (λ g. g.inputs ≡ length names.inputs.items) → IfOk r (λ g. g.outputs ≡ length names.outputs.items) → IfOk r (λ g. g.k ≡ pos k) → IfOk r (λ g. g.init ≡ a.init) → IfOk r (λ g. lanes g ≡ length a.states)
    → IfOk r HasLetters → IfOk r CoversLetters → IfOk r (HasRows a) → IfOk r (IsGrouped a) → IfOk r (IsGameOf a names who k)
game_of a names who k (Ok g) player kind inputs outputs bound init all letters covers rows grouped = record {
  player = player;
  kind = kind;
  inputs = inputs;
  outputs = outputs;
  bound = bound;
  init = init;
  lanes = all;
  letters = letters;
  covers = covers;
  rows = rows;
  grouped = grouped;
}
game_of a names who k (Err e) player kind inputs outputs bound init all letters covers rows grouped = tt
