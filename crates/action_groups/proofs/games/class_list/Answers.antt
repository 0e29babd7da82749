use Rattle.std.proofs.Common.{◌≡◌, ℕ, ◌<◌, ◌+◌, ◌^◌, ◌++◌, ◌∙◌, List, [], ◌∷◌, length, get_or, sym, ap, subst, arith}
use Rattle.std.specs.Prelude.{Vec}
use Rattle.std.specs.List.{All}
use Rattle.std.specs.declared.alloc.Global.{Global}
use Rattle.std.proofs.lemmas.Grind.{common_steps}
use Rattle.std.proofs.lemmas.List.{length_push}
use Rattle.std.proofs.lemmas.List.Elements.{All-push}
use Rattle.game_form.specs.Game.{ClassData}
use Rattle.action_groups.specs.Labels.{pair_at}
use Rattle.action_groups.specs.Lists.{items_at}
use Rattle.action_groups.specs.Listing.{IsListedClass, class_from, with_numbers}
use Rattle.action_groups.proofs.Lists.{read_items, class_more}
use Rattle.action_groups.proofs.games.class_list.Goals as goal

pub loop-least-preserved : goal.loop-least-preserved
loop-least-preserved c =
    let lists = c.args.lists.now.keys in
    let order = c.args.classes.now.order.items in
    let i : ℕ = c.loop-least.least-index in
    let out = c.loop-least.out.items in
    let p : ℕ × ℕ = pair_at order i in
    let q : ℕ × ℕ = get_or c.deref-least-items.result.now i (0, 0) in
    let new : ClassData = record { least = q.0; options = c.in_ok-options_of.field-0.items } in
    let pushed : c.push.new.self.items ≡ out ++ new ∷ [] = c.in_ok-push.ensures.items in
    let same : q ≡ p = ap (λ (l : List (ℕ × ℕ)). get_or l i (0, 0)) c.deref-least-items.ensures.value in
    let lt : i < length order = subst (λ (l : List (ℕ × ℕ)). i < length l) c.deref-least-items.ensures.value c.loop-least-test.true in
    let ranged : (p.0 < 2 ^ c.args.width) × (p.1 < length lists) = c.requires.classes.order i (0, 0) lt in
    let label : q.1 < length lists = subst (λ (x : ℕ × ℕ). x.1 < length lists) (sym same) ranged.1 in
    let read : c.index-as_slice-label.result ≡ get_or lists q.1 c.index-as_slice-label.result =
    subst (λ (l : List (Vec (ℕ × ℕ) Global)). c.index-as_slice-label.result ≡ get_or l q.1 c.index-as_slice-label.result) c.as_slice.ensures.keys c.index-as_slice-label.is in
    let there : items_at lists q.1 ≡ c.index-as_slice-label.result.items = read_items lists q.1 c.index-as_slice-label.result label read in
    let options : c.in_ok-options_of.field-0.items ≡ with_numbers c.args.labels.now.numbers.items (items_at lists q.1) =
    c.in_ok-options_of.ensures.value
    ∙ ap (λ (ns : List ℕ). with_numbers ns c.deref.result.now) c.deref-in-loop-least.ensures.value
    ∙ ap (with_numbers c.args.labels.now.numbers.items) (c.deref.ensures.value ∙ sym there) in
    let is : new ≡ class_from lists c.args.labels.now.numbers.items p =
    ap (λ (l : List (ℕ × ℕ)). record { least = q.0; options = l }) options ∙ ap (class_from lists c.args.labels.now.numbers.items) same in
    let P : ClassData → Type 0 = IsListedClass c.args.width c.args.second (length c.args.labels.now.order.items) in
    let some_there : 0 < length c.index-as_slice-label.result.items =
    subst (λ (v : Vec (ℕ × ℕ) Global). 0 < length v.items) (sym read) (c.requires.options q.1 c.index-as_slice-label.result label).1 in
    let same_length : length c.in_ok-options_of.field-0.items ≡ length c.index-as_slice-label.result.items =
    c.in_ok-options_of.ensures.len ∙ ap (λ (l : List (ℕ × ℕ)). length l) c.deref.ensures.value in
    let some : 0 < length c.in_ok-options_of.field-0.items = omega arith in
    let size : c.len-in-loop-least.result ≡ length c.args.labels.now.order.items = grind (arith, common_steps) in
    let Option : ℕ → ℕ × ℕ → Type 0 = λ n o. (o.0 < n) × (o.1 < 2 ^ c.args.second) in
    let listed : P new = record {
      least = subst (λ (x : ℕ × ℕ). x.0 < 2 ^ c.args.width) (sym same) ranged.0;
      some = some;
      options = subst (λ n. All (Option n) c.in_ok-options_of.field-0.items) size c.in_ok-options_of.ensures.options;
    } in (
      ap (λ (l : List ClassData). length l) pushed ∙ length_push out new ∙ ap (λ n. n + 1) c.loop-least.invariant.0,
      subst (All P) (sym pushed) (All-push P out new c.loop-least.invariant.1 listed),
      class_more lists c.args.labels.now.numbers.items order i out c.push.new.self.items new lt c.loop-least.invariant.2 pushed is,
    )
