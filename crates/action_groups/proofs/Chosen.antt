-- Classes and options with their numbers are those of the letters.
use Rattle.std.proofs.Common.{◌≡◌, ℕ, zero, suc, ◌+◌, ◌*◌, ◌/◌, ◌<◌, ◌^◌, List, [], ◌∷◌, length, get_or, map, refl, sym, ap, ◌∙◌, subst, arith}
use Rattle.std.specs.Prelude.{ℤ, Option, Vec}
use Rattle.std.specs.declared.alloc.Global.{Global}
use Rattle.std.proofs.lemmas.List.{length-map}
use Rattle.std.proofs.lemmas.List.Elements.{All-contains}
use Rattle.word_core.specs.declared.branches.Branch.{Branch}
use Rattle.word_core.specs.Tree.{label_of}
use Rattle.word_core.specs.declared.names.Kind.{Kind}
use Rattle.word_core.specs.declared.names.Kind.TheVariants.{First, Second}
use Rattle.word_core.specs.declared.names.Player.{Player}
use Rattle.word_core.specs.Machine.{own_width, other_width}
use Rattle.game_form.specs.Game.{ClassData, option_at, no_class, of_first}
use Rattle.game_form.specs.Covering.{CoversLetters}
use Rattle.game_form.specs.Letters.{HasLetters}
use Rattle.action_groups.specs.declared.games.Parts.{Parts}
use Rattle.action_groups.specs.Part.{ArePairs}
use Rattle.action_groups.specs.Labels.{IsLabelled, pair_at}
use Rattle.action_groups.specs.Lists.{items_at}
use Rattle.action_groups.specs.Options.{HasOptions, AreOptionsOf}
use Rattle.action_groups.specs.Rank.{IsNumbering}
use Rattle.action_groups.specs.Listing.{with_numbers, class_from}
use Rattle.action_groups.specs.Parts.{HasLetterParts, listed_at}

pub option_numbered : (numbers : List ℕ) (options : List (ℕ × ℕ)) (i : ℕ) → i < length options → get_or (with_numbers numbers options) i (0, 0) ≡ (get_or numbers (pair_at options i).1 0, (pair_at options i).0)
option_numbered numbers [] i lt = absurd (omega arith)
option_numbered numbers (o ∷ options) zero lt = refl
option_numbered numbers (o ∷ options) (suc i) lt = option_numbered numbers options i (omega arith)

pub class_numbered : (lists : List (Vec (ℕ × ℕ) Global)) (numbers : List ℕ) (order : List (ℕ × ℕ)) (c : ℕ) → c < length order → get_or (map (class_from lists numbers) order) c no_class ≡ class_from lists numbers (pair_at order c)
class_numbered lists numbers [] c lt = absurd (omega arith)
class_numbered lists numbers (p ∷ order) zero lt = refl
class_numbered lists numbers (p ∷ order) (suc c) lt = class_numbered lists numbers order c (omega arith)

-- the parts of a tree of letters, one of first valuations, the lists of options and their numbers
module _
    (width count : ℕ) (letters firsts : List Branch) (lists : List (Vec (ℕ × ℕ) Global)) (pairs order : List (ℕ × ℕ))
    (numbers labels : List ℕ) (p : Parts)
    (labelled : IsLabelled 0 (label_of firsts) pairs) (chosen : HasOptions width (label_of letters) (label_of firsts) lists) (numbering : IsNumbering pairs order numbers)
    (within : ArePairs width count order) (classes : p.classes.items ≡ map (class_from lists labels) order)
    (letter : (bits : ℕ) → label_of p.letters.items bits ≡ get_or labels (label_of letters bits) 0)
    (first_of : (bits : ℕ) → label_of p.firsts.items bits ≡ get_or numbers (label_of firsts bits) 0) where
  abbrev Meets : ClassData → ℕ → Type 0
  Meets c second = (i : ℕ) × (i < length c.options) × ((option_at c i).0 ≡ label_of p.letters.items (c.least + second * 2 ^ width))

  abbrev Agrees : ℕ → ClassData → Type 0
  Agrees first c = (i : ℕ) → i < length c.options → (option_at c i).0 ≡ label_of p.letters.items (first + (option_at c i).1 * 2 ^ width)

  size : (options : List (ℕ × ℕ)) → length (with_numbers labels options) ≡ length options
  size options = (let f : ℕ × ℕ → ℕ × ℕ = λ o. (get_or labels o.1 0, o.0) in length-map options f)

  listed : (c : ℕ) → c < length order → class_from lists labels (pair_at order c) ≡ listed_at p c
  listed c lt = sym (class_numbered lists labels order c lt) ∙ ap (λ (cs : List ClassData). get_or cs c no_class) (sym classes)

  least_label : (c : ℕ) → c < length order → label_of firsts (pair_at order c).0 ≡ (pair_at order c).1
  least_label c lt =
      let q : ℕ × ℕ = pair_at order c in
      let P : ℕ × ℕ → Type 0 = λ o. (bits : ℕ) → bits / 2 ^ 0 ≡ o.0 → label_of firsts bits ≡ o.1 in
      All-contains P pairs q labelled.each (numbering.once.each c (0, 0) lt) q.0 (omega arith)

  meets : (c second : ℕ) → c < length order → Meets (class_from lists labels (pair_at order c)) second
  meets c second lt =
      let q : ℕ × ℕ = pair_at order c in
      let options : List (ℕ × ℕ) = items_at lists q.1 in
      let own : AreOptionsOf width q.0 (label_of letters) options = subst (λ l. AreOptionsOf width q.0 (label_of letters) (items_at lists l)) (least_label c lt) (chosen q.0 (within c (0, 0) lt).0) in
      let w = own.all second in
      let below : w.0 < length options = w.1 in (
        w.0,
        omega (arith, size options),
        ap (λ (o : ℕ × ℕ). o.0) (option_numbered labels options w.0 below)
            ∙ ap (λ l. get_or labels l 0) w.2
            ∙ sym (letter (q.0 + second * 2 ^ width)),
      )

  agrees : (first : ℕ) → first < 2 ^ width → Agrees first (record { least = (pair_at order (get_or numbers (label_of firsts first) 0)).0; options = with_numbers labels (items_at lists (label_of firsts first)) })
  agrees first lt i below =
      let options : List (ℕ × ℕ) = items_at lists (label_of firsts first) in
      let inside : i < length options = omega (arith, size options) in
      let o = option_numbered labels options i inside in
      let own = chosen first lt in
      ap (λ (x : ℕ × ℕ). x.0) o
      ∙ ap (λ l. get_or labels l 0) (sym (own.each i (0, 0) inside))
      ∙ sym (letter (first + (pair_at options i).0 * 2 ^ width))
      ∙ ap (λ (x : ℕ × ℕ). label_of p.letters.items (first + x.1 * 2 ^ width)) (sym o)

  place_of : (first : ℕ) → (get_or numbers (label_of firsts first) 0 < length order) × ((pair_at order (get_or numbers (label_of firsts first) 0)).1 ≡ label_of firsts first)
  place_of first =
      let w = labelled.all first in
      let Q : ℕ → Type 0 = λ l. (get_or numbers l 0 < length order) × ((pair_at order (get_or numbers l 0)).1 ≡ l) in
      subst Q w.2 (numbering.placed w.0 (0, 0) w.1)

  pub parts_chosen : HasLetterParts width p
  parts_chosen = record {
    least = λ c second lt. (
        let e : length p.classes.items ≡ length order = ap (λ (cs : List ClassData). length cs) classes ∙ length-map order (class_from lists labels) in
        let inside : c < length order = omega arith in
        subst (λ k. Meets k second) (listed c inside) (meets c second inside));
    options = λ first i lt. (
        let w = place_of first in
        let number : ℕ = get_or numbers (label_of firsts first) 0 in
        let e : record { least = (pair_at order number).0; options = with_numbers labels (items_at lists (label_of firsts first)) } ≡ class_from lists labels (pair_at order number) =
        ap (λ l. record { least = (pair_at order number).0; options = with_numbers labels (items_at lists l) }) (sym w.1) in
        let there : class_from lists labels (pair_at order number) ≡ listed_at p (label_of p.firsts.items first) = listed number w.0 ∙ ap (listed_at p) (sym (first_of first)) in
        subst (Agrees first) (e ∙ there) (agrees first lt) i);
  }

-- the game of the parts
pub letters_hold : (player : Player) (kind : Kind) (i o : ℕ) (k : ℤ) (init : Option ℕ) (width : ℕ) (p : Parts) → width ≡ of_first kind (own_width player i o) (other_width player i o) → HasLetterParts width p → HasLetters (record {
  player = player;
  kind = kind;
  inputs = i;
  outputs = o;
  k = k;
  init = init;
  actions = p.actions.items;
  classes = p.classes.items;
  letters = p.letters.items;
  firsts = p.firsts.items;
})
letters_hold player First i o k init width p e h =
    let w = subst (λ n. HasLetterParts n p) e h in
    λ place other lt below. w.least place other lt
letters_hold player Second i o k init width p e h =
    let w = subst (λ n. HasLetterParts n p) e h in
    λ other n lt below. w.options other n lt below

-- each letter's action is that of an option
pub covers_hold : (player : Player) (kind : Kind) (i o : ℕ) (k : ℤ) (init : Option ℕ) (width : ℕ) (p : Parts) → width ≡ of_first kind (own_width player i o) (other_width player i o) → HasLetterParts width p → CoversLetters (record {
  player = player;
  kind = kind;
  inputs = i;
  outputs = o;
  k = k;
  init = init;
  actions = p.actions.items;
  classes = p.classes.items;
  letters = p.letters.items;
  firsts = p.firsts.items;
})
covers_hold player First i o k init width p e h =
    let w = subst (λ n. HasLetterParts n p) e h in
    λ own n lt below. w.options own n lt below
covers_hold player Second i o k init width p e h =
    let w = subst (λ n. HasLetterParts n p) e h in
    λ place own lt below. w.least place own lt
