use Rattle.std.proofs.Common.{◌≡◌, ℕ, ◌<◌, ◌≤◌, ◌++◌, ◌∙◌, List, length, get_or, map, sym, ap, subst, arith}
use Rattle.std.specs.Prelude.{Vec}
use Rattle.std.specs.declared.alloc.Global.{Global}
use Rattle.std.proofs.lemmas.List.{take_all}
use Rattle.action_groups.specs.Labels.{pair_at}
use Rattle.action_groups.specs.Lists.{items_at}
use Rattle.action_groups.specs.Part.{ArePairs}
use Rattle.action_groups.specs.Sides.{letter_with, letters_of}
use Rattle.action_groups.proofs.Lists.{read_items}
use Rattle.action_groups.proofs.Sides.{letters_more, letters_some, options_ranged}
use Rattle.action_groups.proofs.least_letters.met_letters.Goals as goal

pub loop-least-preserved : goal.loop-least-preserved
loop-least-preserved c =
    let lists = c.args.lists.now.keys in
    let classes = c.args.classes.now in
    let i : ℕ = c.loop-least.least-index in
    let p : ℕ × ℕ = pair_at classes i in
    let label : p.1 < length lists = (c.requires.classes i (0, 0) c.loop-least-test.true).1 in
    let read : c.index-as_slice-class.result ≡ get_or lists p.1 c.index-as_slice-class.result =
    subst (λ (l : List (Vec (ℕ × ℕ) Global)). c.index-as_slice-class.result ≡ get_or l p.1 c.index-as_slice-class.result) c.as_slice.ensures.keys c.index-as_slice-class.is in
    let there : items_at lists p.1 ≡ c.index-as_slice-class.result.items = read_items lists p.1 c.index-as_slice-class.result label read in
    let added : c.add_letters.new.met.items ≡ c.loop-least.met.items ++ map (letter_with c.args.order p.0) (items_at lists p.1) =
    c.in_ok-add_letters.ensures.value
    ∙ ap (λ (l : List (ℕ × ℕ)). c.loop-least.met.items ++ map (letter_with c.args.order p.0) l) (c.deref.ensures.value ∙ sym there) in
    (c.in_ok-add_letters.ensures.met, letters_more c.args.order lists classes i c.loop-least.met.items c.add_letters.new.met.items c.loop-least-test.true c.loop-least.invariant.1 added)

pub add_letters-requires-clause-options : goal.add_letters-requires-clause-options
add_letters-requires-clause-options c =
    let lists = c.args.lists.now.keys in
    let p : ℕ × ℕ = pair_at c.args.classes.now c.loop-least.least-index in
    let label : p.1 < length lists = (c.requires.classes c.loop-least.least-index (0, 0) c.loop-least-test.true).1 in
    let read : c.index-as_slice-class.result ≡ get_or lists p.1 c.index-as_slice-class.result =
    subst (λ (l : List (Vec (ℕ × ℕ) Global)). c.index-as_slice-class.result ≡ get_or l p.1 c.index-as_slice-class.result) c.as_slice.ensures.keys c.index-as_slice-class.is in
    let there : items_at lists p.1 ≡ c.index-as_slice-class.result.items = read_items lists p.1 c.index-as_slice-class.result label read in
    subst (ArePairs _ c.args.count) (there ∙ sym c.deref.ensures.value) (options_ranged _ c.args.count lists p.1 label c.requires.options)

pub returns-clause-value : goal.returns-clause-value
returns-clause-value c =
    let end : length c.args.classes.now ≤ c.loop-least.least-index = omega arith in
    c.loop-least.invariant.1 ∙ ap (λ (l : List (ℕ × ℕ)). letters_of c.args.order c.args.lists.now.keys l) (take_all c.loop-least.least-index c.args.classes.now end)

pub returns-clause-some : goal.returns-clause-some
returns-clause-some c =
    let end : length c.args.classes.now ≤ c.loop-least.least-index = omega arith in
    let all : c.loop-least.met.items ≡ letters_of c.args.order c.args.lists.now.keys c.args.classes.now =
    c.loop-least.invariant.1 ∙ ap (λ (l : List (ℕ × ℕ)). letters_of c.args.order c.args.lists.now.keys l) (take_all c.loop-least.least-index c.args.classes.now end) in
    subst (λ (l : List (ℕ × ℕ)). 0 < length l) (sym all) (letters_some c.args.order c.args.lists.now.keys c.args.classes.now _ c.args.count _ c.requires.some c.requires.classes c.requires.options)
