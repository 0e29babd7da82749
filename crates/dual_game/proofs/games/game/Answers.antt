use Rattle.std.proofs.Common.{◌≡◌, ◌<◌, ◌^◌, length, subst, arith}
use Rattle.std.proofs.lemmas.Int.{to_z_pos}
use mir.Syntax.{w16}
use Rattle.std.specs.Prelude.{IfOk}
use Rattle.std.proofs.lemmas.Result.{IfOk-weaker}
use Rattle.action_groups.specs.Grouped.{IsGrouped}
use Rattle.game_form.specs.Game.{GameData}
use Rattle.dual_game.proofs.Grouped.{game_of}
use Rattle.dual_game.proofs.games.game.Goals as goal

pub returns : goal.returns
returns c =
    let made = c.make_game.ensures in
    let inputs : c.len.result ≡ length c.args.names.now.inputs.items = omega (arith, c.len.ensures) in
    let outputs : c.len-2.result ≡ length c.args.names.now.outputs.items = omega (arith, c.len-2.ensures) in
    let small : c.args.k < 2 ^ 15 = omega (arith, c.requires.bound) in
    game_of c.args.a.now c.args.names.now c.args.player c.args.k c.make_game.result made.player
    (subst (λ k. IfOk c.make_game.result (λ (g : GameData). g.kind ≡ k)) c.kind_of.ensures made.kind)
    (subst (λ n. IfOk c.make_game.result (λ (g : GameData). g.inputs ≡ n)) inputs made.inputs)
    (subst (λ n. IfOk c.make_game.result (λ (g : GameData). g.outputs ≡ n)) outputs made.outputs)
    (subst (λ z. IfOk c.make_game.result (λ (g : GameData). g.k ≡ z)) (to_z_pos w16 c.args.k small) made.k) made.init made.lanes made.letters made.covers made.rows
    (IfOk-weaker _ _ (IsGrouped c.args.a.now) (λ g is. is.grouped) made.grouped)
