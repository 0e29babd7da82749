-- Letters of the valuations of two sides.
use Rattle.std.proofs.Common.{◌≡◌, ℕ, zero, suc, ◌+◌, ◌*◌, ◌%◌, ◌<◌, ◌≤◌, ◌^◌, Bool, true, false, List, [], ◌∷◌, ◌++◌, length, get_or, map, take, refl, sym, ap, ◌∙◌, subst, arith, append-nil, append_assoc}
use Rattle.std.specs.Prelude.{Vec}
use Rattle.std.specs.List.{All}
use Rattle.std.specs.declared.alloc.Global.{Global}
use Rattle.std.proofs.lemmas.List.{take_more, get_or_default, length-append, length-map}
use Rattle.std.proofs.lemmas.List.Elements.{All-append, All-map, All-weaker}
use Rattle.std.proofs.lemmas.Nat.{mul-le}
use Rattle.std.proofs.Math.Nat.{mod-eq_of_lt}
use Rattle.game_form.proofs.Widths.{joined_fits, shift_whole}
use Rattle.word_core.specs.declared.names.Kind.{Kind}
use Rattle.word_core.specs.declared.names.Kind.TheVariants.{First, Second}
use Rattle.word_core.specs.declared.names.Player.{Player}
use Rattle.word_core.specs.declared.names.Player.TheVariants.{System, Environment}
use Rattle.word_core.specs.Machine.{own_width, other_width}
use Rattle.game_form.specs.Game.{of_first}
use Rattle.action_groups.specs.declared.orders.Order.{Order}
use Rattle.action_groups.specs.Actions.{inputs_lead}
use Rattle.action_groups.specs.First.{AreOptions}
use Rattle.action_groups.specs.Labels.{HasAtMost, pair_at}
use Rattle.action_groups.specs.Lists.{items_at}
use Rattle.action_groups.specs.Part.{ArePairs}
use Rattle.action_groups.specs.Sides.{leading, letter_number, letter_with, letters_of}
use Rattle.action_groups.proofs.Splits.{most_left, most_right}

-- nothing is lost where the parts have at most 40 signals
pub letter_whole : (low a high b : ℕ) → low < 2 ^ a → high < 2 ^ b → a + b ≤ 40 → (low + high * 2 ^ (a % 64) % 2 ^ 64) % 2 ^ 64 ≡ low + high * 2 ^ a
letter_whole low a high b low_in high_in narrow =
    let small : a % 64 ≡ a = omega arith in
    let few : low + high * 2 ^ a < 2 ^ 40 = joined_fits low a high b low_in high_in narrow in
    let most : 2 ^ 40 ≤ 2 ^ 64 = omega arith in
    ap (λ n. (low + high * 2 ^ n % 2 ^ 64) % 2 ^ 64) small
    ∙ ap (λ n. (low + n) % 2 ^ 64) (shift_whole a high b high_in narrow)
    ∙ mod-eq_of_lt (omega arith)

leads_first : (player : Player) (kind : Kind) (n m : ℕ) → leading n m (inputs_lead player kind) ≡ of_first kind (own_width player n m) (other_width player n m)
leads_first System First n m = refl
leads_first System Second n m = refl
leads_first Environment First n m = refl
leads_first Environment Second n m = refl

pub leads_at : (player : Player) (kind : Kind) (n m : ℕ) (lead : Bool) → lead ≡ inputs_lead player kind → leading n m lead ≡ of_first kind (own_width player n m) (other_width player n m)
leads_at player kind n m lead e = ap (leading n m) e ∙ leads_first player kind n m

pub leads_within : (n m : ℕ) (lead : Bool) → leading n m lead ≤ n + m
leads_within n m true = omega arith
leads_within n m false = omega arith

pub number_rises : (n : ℕ) (lead : Bool) (f f' s s' : ℕ) → f ≤ f' → s ≤ s' → letter_number n lead f s ≤ letter_number n lead f' s'
number_rises n true f f' s s' a b = (let le : s * 2 ^ n ≤ s' * 2 ^ n = mul-le s (2 ^ n) s' (2 ^ n) b (omega arith) in omega arith)
number_rises n false f f' s s' a b = (let le : f * 2 ^ n ≤ f' * 2 ^ n = mul-le f (2 ^ n) f' (2 ^ n) a (omega arith) in omega arith)

letters_push : (order : Order) (lists : List (Vec (ℕ × ℕ) Global)) (classes : List (ℕ × ℕ)) (p : ℕ × ℕ) → letters_of order lists (classes ++ p ∷ []) ≡ letters_of order lists classes ++ map (letter_with order p.0) (items_at lists p.1)
letters_push order lists [] p = append-nil (map (letter_with order p.0) (items_at lists p.1))
letters_push order lists (c ∷ classes) p =
    ap (λ (l : List (ℕ × ℕ)). map (letter_with order c.0) (items_at lists c.1) ++ l) (letters_push order lists classes p)
    ∙ sym (append_assoc (map (letter_with order c.0) (items_at lists c.1)) (letters_of order lists classes) (map (letter_with order p.0) (items_at lists p.1)))

-- one more class
pub letters_more : (order : Order) (lists : List (Vec (ℕ × ℕ) Global)) (classes : List (ℕ × ℕ)) (i : ℕ) (met now : List (ℕ × ℕ)) → i < length classes → met ≡ letters_of order lists (take i classes) → now ≡ met ++ map (letter_with order (pair_at classes i).0) (items_at lists (pair_at classes i).1) → now ≡ letters_of order lists (take (i + 1) classes)
letters_more order lists classes i met now lt em en =
    en
    ∙ ap (λ (l : List (ℕ × ℕ)). l ++ map (letter_with order (pair_at classes i).0) (items_at lists (pair_at classes i).1)) em
    ∙ sym (letters_push order lists (take i classes) (pair_at classes i))
    ∙ sym (ap (letters_of order lists) (take_more classes i (0, 0) lt))

letter_same : (order : Order) (first : ℕ) (options : List (ℕ × ℕ)) (k : ℕ) → k < length options → pair_at (map (letter_with order first) options) k ≡ letter_with order first (pair_at options k)
letter_same order first [] k lt = absurd (omega arith)
letter_same order first (o ∷ options) zero lt = refl
letter_same order first (o ∷ options) (suc k) lt = letter_same order first options k (omega arith)

-- each option of a class stands among the letters
pub letters_have : (order : Order) (lists : List (Vec (ℕ × ℕ) Global)) (classes : List (ℕ × ℕ)) (j l k : ℕ) → j < length classes → (pair_at classes j).1 ≡ l → k < length (items_at lists l)
    → HasAtMost (letters_of order lists classes) (pair_at (items_at lists l) k).1 (letter_number order.inputs order.inputs_first (pair_at classes j).0 (pair_at (items_at lists l) k).0)
letters_have order lists [] j l k lt e inside = absurd (omega arith)
letters_have order lists (c ∷ classes) zero l k lt e inside =
    let options : List (ℕ × ℕ) = items_at lists l in
    let p : ℕ × ℕ = pair_at options k in
    let number : ℕ = letter_number order.inputs order.inputs_first c.0 p.0 in
    let size : length (map (letter_with order c.0) options) ≡ length options = length-map options (letter_with order c.0) in
    let same : pair_at (map (letter_with order c.0) options) k ≡ letter_with order c.0 p = letter_same order c.0 options k inside in
    let here : HasAtMost (map (letter_with order c.0) options) p.1 number =
    (k, omega arith, ap (λ (q : ℕ × ℕ). q.1) same, subst (λ (q : ℕ × ℕ). q.0 ≤ number) (sym same) (omega arith)) in
    most_left (map (letter_with order c.0) (items_at lists c.1)) (letters_of order lists classes) p.1 number
    (subst (λ i. HasAtMost (map (letter_with order c.0) (items_at lists i)) p.1 number) (sym e) here)
letters_have order lists (c ∷ classes) (suc j) l k lt e inside =
    most_right (map (letter_with order c.0) (items_at lists c.1)) (letters_of order lists classes) (pair_at (items_at lists l) k).1
    (letter_number order.inputs order.inputs_first (pair_at classes j).0 (pair_at (items_at lists l) k).0)
    (letters_have order lists classes j l k (omega arith) e inside)

-- a letter that is that of a class and one of its options
pub record IsMet (order : Order) (lists : List (Vec (ℕ × ℕ) Global)) (classes : List (ℕ × ℕ)) (e : ℕ × ℕ) : Type 0 where
  pub class : ℕ
  pub class_in : class < length classes
  pub option : ℕ
  pub option_in : option < length (items_at lists (pair_at classes class).1)
  pub number : e.0 ≡ letter_number order.inputs order.inputs_first (pair_at classes class).0 (pair_at (items_at lists (pair_at classes class).1) option).0
  pub label : e.1 ≡ (pair_at (items_at lists (pair_at classes class).1) option).1

met_later : (order : Order) (lists : List (Vec (ℕ × ℕ) Global)) (c : ℕ × ℕ) (classes : List (ℕ × ℕ)) (e : ℕ × ℕ) → IsMet order lists classes e → IsMet order lists (c ∷ classes) e
met_later order lists c classes e h = (let lt : h.class < length classes = h.class_in in record {
  class = suc h.class;
  class_in = omega arith;
  option = h.option;
  option_in = h.option_in;
  number = h.number;
  label = h.label;
})

pub each_met : (order : Order) (lists : List (Vec (ℕ × ℕ) Global)) (classes : List (ℕ × ℕ)) → All (IsMet order lists classes) (letters_of order lists classes)
each_met order lists [] = λ k d lt. absurd (omega arith)
each_met order lists (c ∷ classes) =
    All-append (IsMet order lists (c ∷ classes)) (map (letter_with order c.0) (items_at lists c.1)) (letters_of order lists classes)
    (All-map (IsMet order lists (c ∷ classes)) (letter_with order c.0) (items_at lists c.1) here)
    (All-weaker (IsMet order lists classes) (IsMet order lists (c ∷ classes)) (met_later order lists c classes) (letters_of order lists classes) (each_met order lists classes))
  where
    here : All (λ (o : ℕ × ℕ). IsMet order lists (c ∷ classes) (letter_with order c.0 o)) (items_at lists c.1)
    here k d lt =
        let same : get_or (items_at lists c.1) k d ≡ pair_at (items_at lists c.1) k = get_or_default (items_at lists c.1) k d (0, 0) lt in
        record {
          class = 0;
          class_in = omega arith;
          option = k;
          option_in = lt;
          number = ap (λ (o : ℕ × ℕ). letter_number order.inputs order.inputs_first c.0 o.0) same;
          label = ap (λ (o : ℕ × ℕ). o.1) same;
        }

pub options_ranged : (second count : ℕ) (lists : List (Vec (ℕ × ℕ) Global)) (c : ℕ) → c < length lists → AreOptions second count lists → ArePairs second count (items_at lists c)
options_ranged second count [] c lt h = absurd (omega arith)
options_ranged second count (o ∷ lists) zero lt h = (h 0 o (omega arith)).0
options_ranged second count (o ∷ lists) (suc c) lt h = options_ranged second count lists c (omega arith) (λ k d inside. h (suc k) d (omega arith))

-- some class has some option
pub letters_some : (order : Order) (lists : List (Vec (ℕ × ℕ) Global)) (classes : List (ℕ × ℕ)) (second count width : ℕ) → 0 < length classes → ArePairs width (length lists) classes → AreOptions second count lists → 0 < length (letters_of order lists classes)
letters_some order lists [] second count width some within ranged = absurd (omega arith)
letters_some order lists (c ∷ classes) second count width some within ranged =
    let first : List (ℕ × ℕ) = map (letter_with order c.0) (items_at lists c.1) in
    let size : length first ≡ length (items_at lists c.1) = length-map (items_at lists c.1) (letter_with order c.0) in
    let long : length (first ++ letters_of order lists classes) ≡ length first + length (letters_of order lists classes) = length-append first (letters_of order lists classes) in
    let more : 0 < length (items_at lists c.1) = options_some second count lists c.1 (within 0 c (omega arith)).1 ranged in
    omega arith
  where
    options_some : (second count : ℕ) (lists : List (Vec (ℕ × ℕ) Global)) (l : ℕ) → l < length lists → AreOptions second count lists → 0 < length (items_at lists l)
    options_some second count [] l lt h = absurd (omega arith)
    options_some second count (o ∷ lists) zero lt h = (h 0 o (omega arith)).1
    options_some second count (o ∷ lists) (suc l) lt h = options_some second count lists l (omega arith) (λ k d inside. h (suc k) d (omega arith))
