use Rattle.std.proofs.Common.{◌≡◌, ◌∙◌, ap, subst, length, None}
use Rattle.std.proofs.lemmas.List.{length-replicate}
use Rattle.game_form.specs.Covering.{CoversLetters}
use Rattle.game_form.specs.Game.{GameData, IsGame}
use Rattle.game_form.specs.Held.{HasHeld}
use Rattle.game_form.specs.Letters.{HasLetters}
use Rattle.game_core.specs.declared.events.Event.TheVariants.{Draw}
use Rattle.game_core.specs.Solved.{IsClosed}
use Rattle.game_core.specs.World.{WorldData, opened_world}
use Rattle.game_core.proofs.Boarded.{board_closed, board_held}
use Rattle.game_core.proofs.Replayed.{plays_next, plays_none, replay_game, replays_all}
use Rattle.game_core.proofs.worlds.World.replay.Goals as goal

pub loop-e-init : goal.loop-e-init
loop-e-init c = (
  plays_none (opened_world c.args.g.value c.args.workers) c.in_ok-world.world c.new-answers.result.items c.in_ok-world.ensures c.new-answers.ensures.items,
  ap (λ (w : WorldData). length w.numbers) c.in_ok-world.ensures ∙ length-replicate c.args.workers None,
)

pub loop-e-preserved : goal.loop-e-preserved
loop-e-preserved c = (
  plays_next (opened_world c.args.g.value c.args.workers) c.loop-e.world c.play.new.self c.args.events.now c.loop-e.e-index (Draw 0) c.loop-e.answers.items c.push.new.self.items
      c.in_ok-play.field-0 c.loop-e-test.true c.loop-e.invariant.0 c.in_ok-play.ensures.plays c.in_ok-push.ensures.items,
  c.in_ok-play.ensures.workers ∙ c.loop-e.invariant.1,
)

game_is : (c : goal.After-known-2) → c.loop-e.world.board.game ≡ c.args.g.value
game_is c =
    replay_game (opened_world c.args.g.value c.args.workers) c.args.events.now c.loop-e.world c.loop-e.answers.items
    (replays_all (opened_world c.args.g.value c.args.workers) c.loop-e.world c.args.events.now c.loop-e.e-index c.loop-e.answers.items c.loop-e-test.false c.loop-e.invariant.0)

pub returns-clause-game : goal.returns-clause-game
returns-clause-game c = game_is c

pub returns-clause-closed : goal.returns-clause-closed
returns-clause-closed c = λ none. subst (λ (g : GameData). IsClosed g c.loop-e.world.board.list) (game_is c) (board_closed c.loop-e.world.board c.known.ensures.board none)

pub returns-clause-held : goal.returns-clause-held
returns-clause-held c = λ none.
    let game : IsGame c.loop-e.world.board.game = subst IsGame (c.game.ensures ∙ ap (λ (w : WorldData). w.board.game) c.world-2.view_is) c.known-2.ensures in
    subst (λ (g : GameData). HasLetters g → CoversLetters g → HasHeld g c.loop-e.world.board.list) (game_is c) (board_held c.loop-e.world.board game c.known.ensures.board none)
