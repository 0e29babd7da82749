-- Actions and classes are numbered by what has them first.
use Rattle.std.proofs.Common.{◌≡◌, ℕ, ◌+◌, ◌*◌, ◌/◌, ◌%◌, ◌<◌, ◌≤◌, ◌^◌, ◌⊎◌, inl, inr, List, [], ◌∷◌, length, get_or, map, refl, sym, ap, ◌∙◌, subst, arith}
use Rattle.std.specs.Prelude.{Vec}
use Rattle.std.specs.List.{All, AllPairs}
use Rattle.std.specs.declared.alloc.Global.{Global}
use Rattle.std.proofs.lemmas.Bool.{cases_lt}
use Rattle.std.proofs.lemmas.List.{length-map, get_or_default}
use Rattle.std.proofs.lemmas.List.Elements.{All-contains, All-map, All-tail}
use Rattle.std.proofs.lemmas.Nat.{pow_pos}
use Rattle.std.proofs.Math.Nat.{div-add-mod, mod-lt, mul_comm}
use Rattle.word_core.specs.declared.branches.Branch.{Branch}
use Rattle.word_core.specs.Tree.{label_of}
use Rattle.game_form.specs.Game.{ClassData, no_class}
use Rattle.action_groups.specs.declared.games.Parts.{Parts}
use Rattle.action_groups.specs.declared.orders.Order.{Order}
use Rattle.action_groups.specs.First.{AreOptions}
use Rattle.action_groups.specs.Labels.{IsLabelled, HasNumber, HasAtMost, pair_at}
use Rattle.action_groups.specs.Lists.{items_at}
use Rattle.action_groups.specs.Listing.{with_numbers, class_from}
use Rattle.action_groups.specs.Options.{HasOptions}
use Rattle.action_groups.specs.Part.{ArePairs}
use Rattle.action_groups.specs.Parts.{listed_at, part_answer, part_class, HasPartLetter, ArePartOptions, AreNumbered}
use Rattle.action_groups.specs.Rank.{IsNumbering}
use Rattle.action_groups.specs.Sides.{leads, follows, letter_number, letters_of}
use Rattle.action_groups.proofs.Chosen.{option_numbered, class_numbered}
use Rattle.action_groups.proofs.Numbering.{IsInFront}
use Rattle.action_groups.proofs.Sides.{number_rises, letters_have, IsMet, each_met, options_ranged}
use Rattle.action_groups.proofs.Splits.{most_weaker}

same_place : (order : List (ℕ × ℕ)) → AllPairs IsInFront order → (i j : ℕ) → i < length order → j < length order → (pair_at order i).1 ≡ (pair_at order j).1 → i ≡ j
same_place order up i j li lj e = go (cases_lt i j) (cases_lt j i)
  where
    go : (i < j) ⊎ (j ≤ i) → (j < i) ⊎ (i ≤ j) → i ≡ j
    go (inl a) c = absurd ((up i j (0, 0) a lj).1 e)
    go (inr a) (inl b) = absurd ((up j i (0, 0) b li).1 (sym e))
    go (inr a) (inr b) = omega arith

earlier : (order : List (ℕ × ℕ)) → AllPairs IsInFront order → (i j : ℕ) → i < length order → j < length order → (pair_at order j).0 < (pair_at order i).0 → j < i
earlier order up i j li lj less = go (cases_lt j i) (cases_lt i j)
  where
    go : (j < i) ⊎ (i ≤ j) → (i < j) ⊎ (j ≤ i) → j < i
    go (inl a) c = a
    go (inr a) (inl b) = (let le : (pair_at order i).0 ≤ (pair_at order j).0 = (up i j (0, 0) b lj).0 in absurd (omega arith))
    go (inr a) (inr b) =
        let e : i ≡ j = omega arith in
        let s : (pair_at order j).0 ≡ (pair_at order i).0 = ap (λ k. (pair_at order k).0) (sym e) in
        absurd (omega arith)

-- the place of a label in the order is its number, and what has a smaller valuation has a smaller number
module _ (pairs order : List (ℕ × ℕ)) (numbers : List ℕ) (h : IsNumbering pairs order numbers) where
  pub placed_at : (n most : ℕ) → HasAtMost pairs n most → (get_or numbers n 0 < length order) × ((pair_at order (get_or numbers n 0)).1 ≡ n)
  placed_at n most w =
      let Q : ℕ → Type 0 = λ l. (get_or numbers l 0 < length order) × ((pair_at order (get_or numbers l 0)).1 ≡ l) in
      subst Q w.2 (h.placed w.0 (0, 0) w.1)

  pub number_of_place : (i : ℕ) → i < length order → get_or numbers (pair_at order i).1 0 ≡ i
  number_of_place i lt =
      let p : ℕ × ℕ = pair_at order i in
      let w = h.once.each i (0, 0) lt in
      let Q : ℕ × ℕ → Type 0 = λ q. (get_or numbers q.1 0 < length order) × ((pair_at order (get_or numbers q.1 0)).1 ≡ q.1) in
      let placed : Q p = subst Q w.2 (h.placed w.0 p w.1) in
      same_place order h.once.rising (get_or numbers p.1 0) i placed.0 lt placed.1

  pub number_before : (n most i : ℕ) → HasAtMost pairs n most → i < length order → most < (pair_at order i).0 → get_or numbers n 0 < i
  number_before n most i w lt less =
      let v = h.once.all w.0 (0, 0) w.1 in
      let below : (pair_at order v.0).0 ≤ (pair_at pairs w.0).0 = v.3 in
      let under : (pair_at pairs w.0).0 ≤ most = w.3 in
      let label : (pair_at order v.0).1 ≡ n = v.2 ∙ w.2 in
      let at : get_or numbers n 0 ≡ v.0 = ap (λ m. get_or numbers m 0) (sym label) ∙ number_of_place v.0 v.1 in
      let first : v.0 < i = earlier order h.once.rising i v.0 lt v.1 (omega arith) in
      omega arith

with_numbers_same : (labels : List ℕ) (actions xs ys : List (ℕ × ℕ)) → All (λ o. (pair_at actions (get_or labels o.1 0)).1 ≡ o.1) xs → All (λ o. (pair_at actions (get_or labels o.1 0)).1 ≡ o.1) ys → with_numbers labels xs ≡ with_numbers labels ys → xs ≡ ys
with_numbers_same labels actions [] [] h k e = refl
with_numbers_same labels actions [] (y ∷ ys) h k e = absurd (cc)
with_numbers_same labels actions (x ∷ xs) [] h k e = absurd (cc)
with_numbers_same labels actions (x ∷ xs) (y ∷ ys) h k e =
    let P : ℕ × ℕ → Type 0 = λ o. (pair_at actions (get_or labels o.1 0)).1 ≡ o.1 in
    let first : (get_or labels x.1 0, x.0) ≡ (get_or labels y.1 0, y.0) = ap (λ (l : List (ℕ × ℕ)). get_or l 0 (0, 0)) e in
    let number : get_or labels x.1 0 ≡ get_or labels y.1 0 = ap (λ (o : ℕ × ℕ). o.0) first in
    let value : x.0 ≡ y.0 = ap (λ (o : ℕ × ℕ). o.1) first in
    let x_in : 0 < length (x ∷ xs) = omega arith in
    let y_in : 0 < length (y ∷ ys) = omega arith in
    let label : x.1 ≡ y.1 = sym (h 0 x x_in) ∙ ap (λ n. (pair_at actions n).1) number ∙ k 0 y y_in in
    let rest : xs ≡ ys = with_numbers_same labels actions xs ys (All-tail P x xs h) (All-tail P y ys k) (ap tail_of e) in
    let one : x ≡ y = ap (λ (n : ℕ). (n, x.1)) value ∙ ap (λ (n : ℕ). (y.0, n)) label in
    ap (λ z. z ∷ xs) one ∙ ap (λ (l : List (ℕ × ℕ)). y ∷ l) rest
  where
    tail_of : List (ℕ × ℕ) → List (ℕ × ℕ)
    tail_of [] = []
    tail_of (z ∷ zs) = zs

-- each label of the tree of letters is met
pub labels_met : (order : Order) (letters firsts : List Branch) (lists : List (Vec (ℕ × ℕ) Global)) (pairs classes : List (ℕ × ℕ)) (numbers : List ℕ) → IsLabelled 0 (label_of firsts) pairs → HasOptions (leads order) (label_of letters) (label_of firsts) lists → IsNumbering pairs classes numbers
    → (f s : ℕ) → f < 2 ^ leads order → HasAtMost (letters_of order lists classes) (label_of letters (f + s * 2 ^ leads order)) (letter_number order.inputs order.inputs_first f s)
labels_met order letters firsts lists pairs classes numbers labelled chosen numbering f s lt =
    let w = labelled.all f in
    let q : ℕ × ℕ = pair_at pairs w.0 in
    let whole : f / 2 ^ 0 ≤ f = omega arith in
    let under : q.0 ≤ f / 2 ^ 0 = w.3 in
    let c = most_weaker classes q.1 (label_of firsts f) q.0 f w.2 (omega arith) (numbering.once.all w.0 (0, 0) w.1) in
    let o = (chosen f lt).all s in
    let options : List (ℕ × ℕ) = items_at lists (label_of firsts f) in
    most_weaker (letters_of order lists classes) (pair_at options o.0).1 (label_of letters (f + s * 2 ^ leads order))
    (letter_number order.inputs order.inputs_first (pair_at classes c.0).0 (pair_at options o.0).0) (letter_number order.inputs order.inputs_first f s) o.2
    (number_rises order.inputs order.inputs_first (pair_at classes c.0).0 f (pair_at options o.0).0 s c.3 o.3)
    (letters_have order lists classes c.0 (label_of firsts f) o.0 c.1 c.2 o.1)

pub all_met : (order : Order) (letters firsts : List Branch) (lists : List (Vec (ℕ × ℕ) Global)) (pairs classes : List (ℕ × ℕ)) (numbers : List ℕ) → IsLabelled 0 (label_of firsts) pairs → HasOptions (leads order) (label_of letters) (label_of firsts) lists → IsNumbering pairs classes numbers
    → (bits : ℕ) → HasNumber (letters_of order lists classes) (label_of letters bits)
all_met order letters firsts lists pairs classes numbers labelled chosen numbering bits =
    let size : ℕ = 2 ^ leads order in
    let some : 0 < size = pow_pos (leads order) in
    let e : bits % size + bits / size * size ≡ bits = omega (arith, div-add-mod bits size, mul_comm size (bits / size)) in
    let w = labels_met order letters firsts lists pairs classes numbers labelled chosen numbering (bits % size) (bits / size) (mod-lt bits some) in
    subst (λ b. HasNumber (letters_of order lists classes) (label_of letters b)) e (w.0, w.1, w.2)

-- the parts of a tree of letters, one of first valuations, the lists of options and their numbers
module _
    (order : Order) (count : ℕ) (letters firsts : List Branch) (lists : List (Vec (ℕ × ℕ) Global)) (pairs classes actions : List (ℕ × ℕ))
    (numbers labels : List ℕ) (p : Parts)
    (labelled : IsLabelled 0 (label_of firsts) pairs) (chosen : HasOptions (leads order) (label_of letters) (label_of firsts) lists)
    (numbering : IsNumbering pairs classes numbers) (within : ArePairs (leads order) (length lists) classes)
    (ranged : AreOptions (follows order) count lists) (labelling : IsNumbering (letters_of order lists classes) actions labels)
    (distinct : (c d : ℕ) → c < length lists → d < length lists → items_at lists c ≡ items_at lists d → c ≡ d)
    (below : (bits : ℕ) → label_of firsts bits < length lists)
    (long : length p.actions.items ≡ length actions) (listed : p.classes.items ≡ map (class_from lists labels) classes)
    (letter : (bits : ℕ) → label_of p.letters.items bits ≡ get_or labels (label_of letters bits) 0)
    (first_of : (bits : ℕ) → label_of p.firsts.items bits ≡ get_or numbers (label_of firsts bits) 0) where
  abbrev label : ℕ → ℕ → ℕ
  label f s = label_of letters (f + s * 2 ^ leads order)

  abbrev options : ℕ → List (ℕ × ℕ)
  options f = items_at lists (label_of firsts f)

  abbrev number : ℕ → ℕ → ℕ
  number f s = letter_number order.inputs order.inputs_first f s

  class_listed : (c : ℕ) → c < length classes → class_from lists labels (pair_at classes c) ≡ listed_at p c
  class_listed c lt = sym (class_numbered lists labels classes c lt) ∙ ap (λ (cs : List ClassData). get_or cs c no_class) (sym listed)

  class_met : (f : ℕ) → HasAtMost pairs (label_of firsts f) f
  class_met f = (let whole : f / 2 ^ 0 ≤ f = omega arith in most_weaker pairs (label_of firsts f) (label_of firsts f) (f / 2 ^ 0) f refl whole (labelled.all f))

  least_label : (c : ℕ) → c < length classes → label_of firsts (pair_at classes c).0 ≡ (pair_at classes c).1
  least_label c lt =
      let q : ℕ × ℕ = pair_at classes c in
      let P : ℕ × ℕ → Type 0 = λ o. (bits : ℕ) → bits / 2 ^ 0 ≡ o.0 → label_of firsts bits ≡ o.1 in
      All-contains P pairs q labelled.each (numbering.once.each c (0, 0) lt) q.0 (omega arith)

  letter_met : (f s : ℕ) → f < 2 ^ leads order → HasAtMost (letters_of order lists classes) (label f s) (number f s)
  letter_met f s lt = labels_met order letters firsts lists pairs classes numbers labelled chosen numbering f s lt

  label_placed : (f s : ℕ) → f < 2 ^ leads order → (pair_at actions (get_or labels (label f s) 0)).1 ≡ label f s
  label_placed f s lt = (placed_at (letters_of order lists classes) actions labels labelling (label f s) (number f s) (letter_met f s lt)).1

  action_letter : (action : ℕ) → action < length actions → HasPartLetter order.inputs order.outputs order.inputs_first p action
  action_letter action lt =
      let e : ℕ × ℕ = pair_at actions action in
      let met : IsMet order lists classes e = All-contains (IsMet order lists classes) (letters_of order lists classes) e (each_met order lists classes) (labelling.once.each action (0, 0) lt) in
      let c : ℕ × ℕ = pair_at classes met.class in
      let o : ℕ × ℕ = pair_at (items_at lists c.1) met.option in
      let known = within met.class (0, 0) met.class_in in
      let of_class : label_of firsts c.0 ≡ c.1 = least_label met.class met.class_in in
      let each = (chosen c.0 known.0).each in
      let P : ℕ → Type 0 = λ l. label c.0 (pair_at (items_at lists l) met.option).0 ≡ (pair_at (items_at lists l) met.option).1 in
      let Inside : ℕ → Type 0 = λ l. met.option < length (items_at lists l) in
      let has : label c.0 o.0 ≡ o.1 = subst P of_class (each met.option (0, 0) (subst Inside (sym of_class) met.option_in)) in
      let second_in = (options_ranged (follows order) count lists c.1 known.1 ranged) met.option (0, 0) met.option_in in
      record {
        first = c.0;
        second = o.0;
        within = (known.0, second_in.0);
        has = letter (c.0 + o.0 * 2 ^ leads order) ∙ ap (λ l. get_or labels l 0) (has ∙ sym met.label) ∙ number_of_place (letters_of order lists classes) actions labels labelling action lt;
        before = λ f s sides less. (
            let smaller : number f s < e.0 = subst (λ n. number f s < n) (sym met.number) less in
            subst (λ n. n < action) (sym (letter (f + s * 2 ^ leads order)))
            (number_before (letters_of order lists classes) actions labels labelling (label f s) (number f s) action (letter_met f s sides.0) lt smaller));
      }

  class_place : (f : ℕ) → (get_or numbers (label_of firsts f) 0 < length classes) × ((pair_at classes (get_or numbers (label_of firsts f) 0)).1 ≡ label_of firsts f)
  class_place f = placed_at pairs classes numbers numbering (label_of firsts f) f (class_met f)

  options_listed : (f : ℕ) → (listed_at p (part_class p f)).options ≡ with_numbers labels (options f)
  options_listed f =
      let place : ℕ = get_or numbers (label_of firsts f) 0 in
      let at = class_place f in
      ap (λ c. (listed_at p c).options) (first_of f)
      ∙ sym (ap (λ (c : ClassData). c.options) (class_listed place at.0))
      ∙ ap (λ l. with_numbers labels (items_at lists l)) at.1

  each_placed : (f : ℕ) → f < 2 ^ leads order → All (λ o. (pair_at actions (get_or labels o.1 0)).1 ≡ o.1) (options f)
  each_placed f lt k d inside =
      let o : ℕ × ℕ = get_or (options f) k d in
      let e : label f o.0 ≡ o.1 = (chosen f lt).each k d inside in
      subst (λ l. (pair_at actions (get_or labels l 0)).1 ≡ l) e (label_placed f o.0 lt)

  part_options : (f : ℕ) → f < 2 ^ leads order → ArePartOptions order.inputs order.outputs order.inputs_first p f (with_numbers labels (options f))
  part_options f lt = record {
    each = All-map P numbered (options f) (λ k d inside. (
        let o : ℕ × ℕ = get_or (options f) k d in
        let e : label f o.0 ≡ o.1 = (chosen f lt).each k d inside in
        let known = (options_ranged (follows order) count lists (label_of firsts f) (below f) ranged) k d inside in
        (known.0, letter (f + o.0 * 2 ^ leads order) ∙ ap (λ l. get_or labels l 0) e)));
    least = λ s s_in. (
        let o = (chosen f lt).all s in
        let at = option_numbered labels (options f) o.0 o.1 in
        let size : length (with_numbers labels (options f)) ≡ length (options f) = length-map (options f) numbered in
        let inside : o.0 < length (options f) = o.1 in
        let le : (pair_at (options f) o.0).0 ≤ s = o.3 in (
          o.0,
          omega arith,
          ap (λ (x : ℕ × ℕ). x.0) at ∙ ap (λ l. get_or labels l 0) o.2 ∙ sym (letter (f + s * 2 ^ leads order)),
          subst (λ (x : ℕ × ℕ). x.1 ≤ s) (sym at) le,
        ));
    rising = λ i j d less inside. (
        let size : length (with_numbers labels (options f)) ≡ length (options f) = length-map (options f) numbered in
        let j_in : j < length (options f) = omega arith in
        let i_in : i < length (options f) = omega arith in
        let at_i = get_or_default (with_numbers labels (options f)) i d (0, 0) (omega arith) ∙ option_numbered labels (options f) i i_in in
        let at_j = get_or_default (with_numbers labels (options f)) j d (0, 0) inside ∙ option_numbered labels (options f) j j_in in
        let up = (chosen f lt).rising i j (0, 0) less j_in in
        subst (λ (x : ℕ × ℕ). (x.1 < (get_or (with_numbers labels (options f)) j d).1) × (x.0 ≡ (get_or (with_numbers labels (options f)) j d).0 → ⊥)) (sym at_i)
        (subst (λ (y : ℕ × ℕ). ((pair_at (options f) i).0 < y.1) × (get_or labels (pair_at (options f) i).1 0 ≡ y.0 → ⊥)) (sym at_j)
        (up.0, λ e. up.1 (sym (each_placed f lt i (0, 0) i_in) ∙ ap (λ n. (pair_at actions n).1) e ∙ each_placed f lt j (0, 0) j_in))));
  }
    where
      numbered : ℕ × ℕ → ℕ × ℕ
      numbered o = (get_or labels o.1 0, o.0)

      P : ℕ × ℕ → Type 0
      P o = (o.1 < 2 ^ follows order) × (part_answer order.inputs order.outputs order.inputs_first p f o.1 ≡ o.0)

  classes_long : length p.classes.items ≡ length classes
  classes_long = ap (λ (cs : List ClassData). length cs) listed ∙ length-map classes (class_from lists labels)

  least_of : (c : ℕ) → c < length classes → (listed_at p c).least ≡ (pair_at classes c).0
  least_of c lt = sym (ap (λ (d : ClassData). d.least) (class_listed c lt))

  pub parts_numbered : AreNumbered order.inputs order.outputs order.inputs_first p
  parts_numbered = record {
    actions = λ action lt. action_letter action (omega (arith, long));
    options = λ f lt. subst (ArePartOptions order.inputs order.outputs order.inputs_first p f) (sym (options_listed f)) (part_options f lt);
    same_class = λ f f' lt lt' e. (
        let same : options f ≡ options f' = with_numbers_same labels actions (options f) (options f') (each_placed f lt) (each_placed f' lt') (sym (options_listed f) ∙ e ∙ options_listed f') in
        first_of f ∙ ap (λ l. get_or numbers l 0) (distinct (label_of firsts f) (label_of firsts f') (below f) (below f') same) ∙ sym (first_of f'));
    class_least = λ c lt. (
        let inside : c < length classes = omega (arith, classes_long) in
        ap (part_class p) (least_of c inside) ∙ first_of (pair_at classes c).0 ∙ ap (λ l. get_or numbers l 0) (least_label c inside)
        ∙ number_of_place pairs classes numbers numbering c inside);
    class_before = λ c f lt less. (
        let inside : c < length classes = omega (arith, classes_long) in
        let smaller : f < (pair_at classes c).0 = subst (λ n. f < n) (least_of c inside) less in
        subst (λ n. n < c) (sym (first_of f)) (number_before pairs classes numbers numbering (label_of firsts f) f c (class_met f) inside smaller));
  }
