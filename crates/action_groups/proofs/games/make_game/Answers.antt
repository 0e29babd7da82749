use Rattle.std.proofs.Common.{◌≡◌, length, refl, sym, subst, arith, w16, SFits}
use Rattle.std.specs.Prelude.{ℤ}
use Rattle.std.proofs.lemmas.Int.{to_z-of_z, ints}
use Rattle.game_form.specs.Game.{GameData, IsGame, lanes}
use Rattle.game_form.specs.Covering.{CoversLetters}
use Rattle.game_form.specs.Letters.{HasLetters}
use Rattle.action_groups.specs.Actions.{inputs_lead}
use Rattle.action_groups.specs.Grouped.{IsGroupedGame}
use Rattle.action_groups.specs.Parts.{HasSameActions, AreNumbered}
use Rattle.action_groups.specs.Rows.{HasRows}
use Rattle.action_groups.specs.Sides.{leading}
use Rattle.action_groups.proofs.Acts.{rows_hold}
use Rattle.action_groups.proofs.Chosen.{letters_hold, covers_hold}
use Rattle.action_groups.proofs.Grouped.{grouped}
use Rattle.action_groups.proofs.Makes.{is_game, lanes_are}
use Rattle.action_groups.proofs.Sides.{leads_at, leads_within}
use Rattle.action_groups.proofs.games.make_game.Goals as goal

pub make-requires : goal.make-requires
make-requires c =
    let P : ℤ → Type 0 = λ z. IsGame (record {
      player = c.args.player;
      kind = c.args.kind;
      inputs = c.args.inputs;
      outputs = c.args.outputs;
      k = z;
      init = c.init.result;
      actions = c.in_ok-parts.parts.actions.items;
      classes = c.in_ok-parts.parts.classes.items;
      letters = c.in_ok-parts.parts.letters.items;
      firsts = c.in_ok-parts.parts.firsts.items;
    }) in
    let fits : SFits w16 c.args.k = grind (arith, ints) in
    subst P (sym (to_z-of_z w16 c.args.k fits))
    (is_game c.args.player c.args.kind c.args.inputs c.args.outputs c.args.k c.init.result _ (leading c.args.inputs c.args.outputs c.has_inputs_first.result) c.in_ok-parts.parts
    c.requires.narrow c.requires.low c.requires.high (rw c.init.ensures.value c.init.ensures.valid.begins)
    (leads_at c.args.player c.args.kind c.args.inputs c.args.outputs c.has_inputs_first.result c.has_inputs_first.ensures) (leads_within c.args.inputs c.args.outputs c.has_inputs_first.result) c.in_ok-parts.ensures.parts)

pub returns-clause-letters : goal.returns-clause-letters
returns-clause-letters c =
    subst HasLetters (sym c.make.ensures)
    (letters_hold c.args.player c.args.kind c.args.inputs c.args.outputs _ c.init.result (leading c.args.inputs c.args.outputs c.has_inputs_first.result) c.in_ok-parts.parts
    (leads_at c.args.player c.args.kind c.args.inputs c.args.outputs c.has_inputs_first.result c.has_inputs_first.ensures) c.in_ok-parts.ensures.letters)

pub returns-clause-covers : goal.returns-clause-covers
returns-clause-covers c =
    subst CoversLetters (sym c.make.ensures)
    (covers_hold c.args.player c.args.kind c.args.inputs c.args.outputs _ c.init.result (leading c.args.inputs c.args.outputs c.has_inputs_first.result) c.in_ok-parts.parts
    (leads_at c.args.player c.args.kind c.args.inputs c.args.outputs c.has_inputs_first.result c.has_inputs_first.ensures) c.in_ok-parts.ensures.letters)

pub returns-clause-rows : goal.returns-clause-rows
returns-clause-rows c =
    let fits : SFits w16 c.args.k = grind (arith, ints) in
    let P : ℤ → Type 0 = λ z. HasRows c.args.a.now (record {
      player = c.args.player;
      kind = c.args.kind;
      inputs = c.args.inputs;
      outputs = c.args.outputs;
      k = z;
      init = c.init.result;
      actions = c.in_ok-parts.parts.actions.items;
      classes = c.in_ok-parts.parts.classes.items;
      letters = c.in_ok-parts.parts.letters.items;
      firsts = c.in_ok-parts.parts.firsts.items;
    }) in
    subst (HasRows c.args.a.now) (sym c.make.ensures)
    (subst P (sym (to_z-of_z w16 c.args.k fits))
    (rows_hold c.args.a.now c.args.inputs c.args.outputs c.has_inputs_first.result c.args.player c.args.kind c.args.k c.init.result c.in_ok-parts.parts c.has_inputs_first.ensures c.in_ok-parts.ensures.rows))

pub returns-clause-lanes : goal.returns-clause-lanes
returns-clause-lanes c =
    let parts = c.in_ok-parts.ensures.parts in
    subst (λ (g : GameData). lanes g ≡ length c.args.a.now.states) (sym c.make.ensures)
    (lanes_are (length c.args.a.now.states) c.in_ok-parts.parts.actions.items parts.some_action parts.actions)

pub returns-clause-grouped : goal.returns-clause-grouped
returns-clause-grouped c =
    let fits : SFits w16 c.args.k = grind (arith, ints) in
    let lead = c.has_inputs_first.result in
    let game : ℤ → GameData = λ z. record {
      player = c.args.player;
      kind = c.args.kind;
      inputs = c.args.inputs;
      outputs = c.args.outputs;
      k = z;
      init = c.init.result;
      actions = c.in_ok-parts.parts.actions.items;
      classes = c.in_ok-parts.parts.classes.items;
      letters = c.in_ok-parts.parts.letters.items;
      firsts = c.in_ok-parts.parts.firsts.items;
    } in
    let rows : HasRows c.args.a.now (game c.args.k) =
    rows_hold c.args.a.now c.args.inputs c.args.outputs lead c.args.player c.args.kind c.args.k c.init.result c.in_ok-parts.parts c.has_inputs_first.ensures c.in_ok-parts.ensures.rows in
    let same : HasSameActions c.args.inputs c.args.outputs (inputs_lead c.args.player c.args.kind) c.args.a.now c.in_ok-parts.parts =
    subst (λ b. HasSameActions c.args.inputs c.args.outputs b c.args.a.now c.in_ok-parts.parts) c.has_inputs_first.ensures c.in_ok-parts.ensures.same in
    let numbered : AreNumbered c.args.inputs c.args.outputs (inputs_lead c.args.player c.args.kind) c.in_ok-parts.parts =
    subst (λ b. AreNumbered c.args.inputs c.args.outputs b c.in_ok-parts.parts) c.has_inputs_first.ensures c.in_ok-parts.ensures.numbered in
    let parts = c.in_ok-parts.ensures.parts in
    let P : ℤ → Type 0 = λ z. IsGroupedGame c.args.a.now c.args.player c.args.kind c.args.inputs c.args.outputs c.args.k (game z) in
    subst (IsGroupedGame c.args.a.now c.args.player c.args.kind c.args.inputs c.args.outputs c.args.k) (sym c.make.ensures)
    (subst P (sym (to_z-of_z w16 c.args.k fits)) (record {
      player = refl;
      kind = refl;
      inputs = refl;
      outputs = refl;
      k = refl;
      init = c.init.ensures.value;
      count = lanes_are (length c.args.a.now.states) c.in_ok-parts.parts.actions.items parts.some_action parts.actions;
      grouped = grouped c.args.a.now c.args.player c.args.kind c.args.inputs c.args.outputs c.args.k c.init.result c.in_ok-parts.parts same numbered rows;
    }))
