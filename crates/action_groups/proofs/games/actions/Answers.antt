use Rattle.std.proofs.Common.{◌≡◌, ℕ, ◌<◌, ◌+◌, ◌++◌, ◌∙◌, Bool, List, [], ◌∷◌, length, get_or, sym, ap, subst, arith}
use Rattle.std.specs.Prelude.{Vec}
use Rattle.std.specs.List.{All}
use Rattle.std.specs.declared.alloc.Global.{Global}
use Rattle.std.proofs.lemmas.List.{length_push}
use Rattle.std.proofs.lemmas.List.Elements.{All-push}
use Rattle.game_form.specs.declared.actions.Step.{Step}
use Rattle.game_form.specs.Game.{row_at}
use Rattle.game_form.specs.Vector.{number}
use Rattle.action_groups.specs.Labels.{pair_at}
use Rattle.action_groups.specs.Lists.{items_at}
use Rattle.action_groups.specs.Numbers.{steps_number}
use Rattle.action_groups.specs.Row.{AreRows}
use Rattle.action_groups.specs.Way.{AreSteps}
use Rattle.action_groups.proofs.Acts.{actions_more}
use Rattle.action_groups.proofs.Lists.{read_items}
use Rattle.action_groups.proofs.games.actions.Goals as goal

pub loop-label-preserved : goal.loop-label-preserved
loop-label-preserved c =
    let effects = c.args.letters.now.effects.keys in
    let order = c.args.labels.now.order.items in
    let i : ℕ = c.loop-label.label-index in
    let actions = c.loop-label.actions.items in
    let now = c.push.new.self.items in
    let new = c.in_ok-action_of.field-0 in
    let pushed : now ≡ actions ++ new ∷ [] = c.in_ok-push.ensures.items in
    let p : ℕ × ℕ = pair_at order i in
    let q : ℕ × ℕ = get_or c.deref-label-items.result.now i (0, 0) in
    let same : q ≡ p = ap (λ (l : List (ℕ × ℕ)). get_or l i (0, 0)) c.deref-label-items.ensures.value in
    let lt : i < length order = subst (λ (l : List (ℕ × ℕ)). i < length l) c.deref-label-items.ensures.value c.loop-label-test.true in
    let label : q.1 < length effects = subst (λ (x : ℕ × ℕ). x.1 < length effects) (sym same) (c.requires.labels.order i (0, 0) lt).1 in
    let read : c.index-as_slice-label.result ≡ get_or effects q.1 c.index-as_slice-label.result =
    subst (λ (l : List (Vec (ℕ × ℕ × Bool) Global)). c.index-as_slice-label.result ≡ get_or l q.1 c.index-as_slice-label.result) c.as_slice.ensures.keys c.index-as_slice-label.is in
    let there : items_at effects q.1 ≡ c.index-as_slice-label.result.items = read_items effects q.1 c.index-as_slice-label.result label read in
    let steps : c.deref.result.now ≡ items_at effects p.1 = c.deref.ensures.value ∙ sym there ∙ ap (λ (x : ℕ × ℕ). items_at effects x.1) same in
    let own : (a b : ℕ) → a < c.args.count → number (row_at new a) b ≡ steps_number (items_at effects p.1) a b = λ a b inside.
    (let within : a < length new = omega (arith, c.in_ok-action_of.ensures.rows.0) in
    c.in_ok-action_of.ensures.numbers a b within ∙ ap (λ (l : List (ℕ × ℕ × Bool)). steps_number l a b) steps) in
    let P : List (List Step) → Type 0 = AreRows c.args.count in (
      actions_more c.args.count effects i order actions now new c.loop-label.invariant.1 pushed own c.loop-label.invariant.0,
      ap (λ (l : List (List (List Step))). length l) pushed ∙ length_push actions new ∙ ap (λ n. n + 1) c.loop-label.invariant.1,
      subst (All P) (sym pushed) (All-push P actions new c.loop-label.invariant.2 c.in_ok-action_of.ensures.rows),
    )

pub action_of-requires-clause-steps : goal.action_of-requires-clause-steps
action_of-requires-clause-steps c =
    let effects = c.args.letters.now.effects.keys in
    let order = c.args.labels.now.order.items in
    let i : ℕ = c.loop-label.label-index in
    let p : ℕ × ℕ = pair_at order i in
    let q : ℕ × ℕ = get_or c.deref-label-items.result.now i (0, 0) in
    let same : q ≡ p = ap (λ (l : List (ℕ × ℕ)). get_or l i (0, 0)) c.deref-label-items.ensures.value in
    let lt : i < length order = subst (λ (l : List (ℕ × ℕ)). i < length l) c.deref-label-items.ensures.value c.loop-label-test.true in
    let label : q.1 < length effects = subst (λ (x : ℕ × ℕ). x.1 < length effects) (sym same) (c.requires.labels.order i (0, 0) lt).1 in
    let read : c.index-as_slice-label.result ≡ get_or effects q.1 c.index-as_slice-label.result =
    subst (λ (l : List (Vec (ℕ × ℕ × Bool) Global)). c.index-as_slice-label.result ≡ get_or l q.1 c.index-as_slice-label.result) c.as_slice.ensures.keys c.index-as_slice-label.is in
    let there : AreSteps c.args.count c.index-as_slice-label.result.items =
    subst (λ (v : Vec (ℕ × ℕ × Bool) Global). AreSteps c.args.count v.items) (sym read) (c.requires.effects q.1 c.index-as_slice-label.result label) in
    subst (AreSteps c.args.count) (sym c.deref.ensures.value) there
