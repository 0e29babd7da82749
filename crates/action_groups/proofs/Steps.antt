-- Steps in order, each once, and their numbers.
use Rattle.std.proofs.Common.{◌≡◌, ℕ, zero, suc, ◌+◌, ◌-◌, ◌<◌, ◌≤◌, inl, inr, Bool, true, false, cond, ◌&&◌, List, [], ◌∷◌, ◌++◌, length, get_or, drop, max, refl, sym, ap, ◌∙◌, subst, arith}
use Rattle.std.specs.Prelude.{nat_eq}
use Rattle.std.specs.List.{All, AllPairs}
use Rattle.std.specs.List.Sorted.{IsPermutation, IsSorted}
use Rattle.std.specs.Ordering.{MatchOrdering, nat_cmp, bool_cmp, ordering_then, is_lt}
use Rattle.std.specs.declared.cmp.Ordering.{Ordering}
use Rattle.std.specs.declared.cmp.Ordering.TheVariants.{Less, Equal, Greater}
use Rattle.std.proofs.lemmas.Cmp.{ranked}
use Rattle.std.proofs.lemmas.List.{drop_more, drop_all}
use Rattle.std.proofs.lemmas.List.Elements.{All-push, All-nil, All-weaker, All-tail, All-cons}
use Rattle.std.proofs.lemmas.List.Quantifiers.{all_pairs_push}
use Rattle.std.proofs.lemmas.List.Sorted.{All-permutation, IsPermutation-sym}
use Rattle.action_groups.specs.Numbers.{step_number, steps_number, mark_number, HasSameNumbers}
use Rattle.action_groups.specs.Way.{IsBefore, IsNotAfter}

abbrev pub step_at : List (ℕ × ℕ × Bool) → ℕ → ℕ × ℕ × Bool
step_at steps k = get_or steps k (0, 0, false)

abbrev pub AreSorted : List (ℕ × ℕ × Bool) → Type 0
AreSorted steps = (k : ℕ) → k + 1 < length steps → IsNotAfter (step_at steps k) (step_at steps (k + 1))

-- of the first steps the last one between any two states
pub record AreOnce (steps : List (ℕ × ℕ × Bool)) (i : ℕ) (once : List (ℕ × ℕ × Bool)) : Type 0 where
  pub numbers : (q p : ℕ) → max (steps_number once q p) (steps_number (drop i steps) q p) ≡ steps_number steps q p
  pub rising : AllPairs IsBefore once
  pub ahead : All (λ e. (k : ℕ) → i ≤ k → k < length steps → IsBefore e (step_at steps k)) once

before_through : (s t u : ℕ × ℕ × Bool) → IsBefore s t → IsNotAfter t u → IsBefore s u
before_through s t u (inl a) (inl (inl b)) = inl (omega arith)
before_through s t u (inl a) (inl (inr b)) = inl (omega (arith, b.0))
before_through s t u (inl a) (inr b) = inl (omega (arith, b.0))
before_through s t u (inr a) (inl (inl b)) = inl (omega (arith, a.0))
before_through s t u (inr a) (inl (inr b)) = inr (a.0 ∙ b.0, omega (arith, a.1, b.1))
before_through s t u (inr a) (inr b) = inr (a.0 ∙ b.0, omega (arith, a.1, b.1))

before_from : (s t : ℕ × ℕ × Bool) → IsNotAfter s t → (s.0 ≡ t.0 → s.1 ≡ t.1 → ⊥) → IsBefore s t
before_from s t (inl b) ne = b
before_from s t (inr e) ne = absurd (ne e.0 e.1)

-- what stands before a step of the list stands before the later ones
before_later : (steps : List (ℕ × ℕ × Bool)) → AreSorted steps → (s : ℕ × ℕ × Bool) (j n : ℕ) → IsBefore s (step_at steps j) → j + n < length steps → IsBefore s (step_at steps (j + n))
before_later steps up s j zero b lt = (let e : j + 0 ≡ j = omega arith in subst (λ k. IsBefore s (step_at steps k)) (sym e) b)
before_later steps up s j (suc n) b lt =
    let e : j + suc n ≡ j + n + 1 = omega arith in
    let r : IsBefore s (step_at steps (j + n)) = before_later steps up s j n b (omega arith) in
    subst (λ k. IsBefore s (step_at steps k)) (sym e) (before_through s (step_at steps (j + n)) (step_at steps (j + n + 1)) r (up (j + n) (omega arith)))

pub numbers_append : (xs ys : List (ℕ × ℕ × Bool)) (q p : ℕ) → steps_number (xs ++ ys) q p ≡ max (steps_number xs q p) (steps_number ys q p)
numbers_append [] ys q p = omega arith
numbers_append (x ∷ xs) ys q p =
    let r : steps_number (xs ++ ys) q p ≡ max (steps_number xs q p) (steps_number ys q p) = numbers_append xs ys q p in
    ap (max (step_number x q p)) r ∙ max_assoc (step_number x q p) (steps_number xs q p) (steps_number ys q p)
  where
    max_assoc : (a b c : ℕ) → max a (max b c) ≡ max (max a b) c
    max_assoc a b c = omega arith

pub numbers_drop : (steps : List (ℕ × ℕ × Bool)) (i q p : ℕ) → i < length steps → steps_number (drop i steps) q p ≡ max (step_number (step_at steps i) q p) (steps_number (drop (i + 1) steps) q p)
numbers_drop steps i q p lt = ap (λ (l : List (ℕ × ℕ × Bool)). steps_number l q p) (drop_more steps i (0, 0, false) lt)

pub once_start : (steps : List (ℕ × ℕ × Bool)) → AreOnce steps 0 []
once_start steps = record {
  numbers = λ q p. none (steps_number steps q p);
  rising = λ i j d lt inside. absurd (omega arith);
  ahead = All-nil _;
}
  where
    none : (n : ℕ) → max 0 n ≡ n
    none n = omega arith

pub once_push : (steps : List (ℕ × ℕ × Bool)) (i : ℕ) (once after : List (ℕ × ℕ × Bool)) → AreSorted steps → i < length steps → (i + 1 < length steps → (step_at steps i).0 ≡ (step_at steps (i + 1)).0 → (step_at steps i).1 ≡ (step_at steps (i + 1)).1 → ⊥) → after ≡ once ++ step_at steps i ∷ [] → AreOnce steps i once → AreOnce steps (i + 1) after
once_push steps i once after up lt last ea h =
    let s : ℕ × ℕ × Bool = step_at steps i in
    let P : ℕ → ℕ × ℕ × Bool → Type 0 = λ n e. (k : ℕ) → n ≤ k → k < length steps → IsBefore e (step_at steps k) in
    let narrower : (e : ℕ × ℕ × Bool) → P i e → P (i + 1) e = λ e f k le inside. f k (omega arith) inside in
    let new : P (i + 1) s = λ k le inside. later k le inside in
    subst (AreOnce steps (i + 1)) (sym ea) (record {
      numbers = λ q p. number q p;
      rising = all_pairs_push IsBefore once s h.rising (λ k d inside. h.ahead k d inside i (omega arith) lt);
      ahead = All-push (P (i + 1)) once s (All-weaker (P i) (P (i + 1)) narrower once h.ahead) new;
    })
  where
    regroup : (a b c d : ℕ) → max a (max b c) ≡ d → max (max a (max b 0)) c ≡ d
    regroup a b c d e = omega arith

    number : (q p : ℕ) → max (steps_number (once ++ step_at steps i ∷ []) q p) (steps_number (drop (i + 1) steps) q p) ≡ steps_number steps q p
    number q p =
        ap (λ n. max n (steps_number (drop (i + 1) steps) q p)) (numbers_append once (step_at steps i ∷ []) q p)
        ∙ regroup (steps_number once q p) (step_number (step_at steps i) q p) (steps_number (drop (i + 1) steps) q p) (steps_number steps q p)
        (ap (max (steps_number once q p)) (sym (numbers_drop steps i q p lt)) ∙ h.numbers q p)

    later : (k : ℕ) → i + 1 ≤ k → k < length steps → IsBefore (step_at steps i) (step_at steps k)
    later k le inside =
        let more : i + 1 < length steps = omega arith in
        let next : IsBefore (step_at steps i) (step_at steps (i + 1)) = before_from (step_at steps i) (step_at steps (i + 1)) (up i more) (last more) in
        let e : i + 1 + (k - (i + 1)) ≡ k = omega arith in
        subst (λ n. IsBefore (step_at steps i) (step_at steps n)) e (before_later steps up (step_at steps i) (i + 1) (k - (i + 1)) next (omega arith))

marks_rise : (m n : Bool) → (m ≡ true → n ≡ true) → mark_number m ≤ mark_number n
marks_rise false false f = omega arith
marks_rise false true f = omega arith
marks_rise true false f = absurd (let g = f refl in cc)
marks_rise true true f = omega arith

within_rise : (b : Bool) (m n : ℕ) → m ≤ n → cond b m 0 ≤ cond b n 0
within_rise true m n le = le
within_rise false m n le = omega arith

pub number_rises : (s t : ℕ × ℕ × Bool) (q p : ℕ) → s.0 ≡ t.0 → s.1 ≡ t.1 → (s.2 ≡ true → t.2 ≡ true) → step_number s q p ≤ step_number t q p
number_rises s t q p e f g =
    let B : ℕ → ℕ → Bool = λ x y. nat_eq x q && nat_eq y p in
    let same : B s.0 s.1 ≡ B t.0 t.1 = ap (λ x. B x s.1) e ∙ ap (B t.0) f in
    subst (λ b. cond b (mark_number s.2) 0 ≤ step_number t q p) (sym same) (within_rise (B t.0 t.1) (mark_number s.2) (mark_number t.2) (marks_rise s.2 t.2 g))

mark_from : (s t : ℕ × ℕ × Bool) → IsNotAfter s t → s.0 ≡ t.0 → s.1 ≡ t.1 → s.2 ≡ true → t.2 ≡ true
mark_from s t (inl (inl b)) e f g = absurd (omega arith)
mark_from s t (inl (inr b)) e f g = absurd (omega (arith, b.1))
mark_from s t (inr h) e f g = h.2 g

pub once_skip : (steps : List (ℕ × ℕ × Bool)) (i : ℕ) (once : List (ℕ × ℕ × Bool)) → AreSorted steps → i + 1 < length steps → (step_at steps i).0 ≡ (step_at steps (i + 1)).0 → (step_at steps i).1 ≡ (step_at steps (i + 1)).1 → AreOnce steps i once → AreOnce steps (i + 1) once
once_skip steps i once up more e f h = record {
  numbers = λ q p.
      absorb (steps_number once q p) (step_number (step_at steps i) q p) (step_number (step_at steps (i + 1)) q p) (steps_number (drop (i + 1 + 1) steps) q p) (steps_number (drop (i + 1) steps) q p) (steps_number steps q p)
      (number_rises (step_at steps i) (step_at steps (i + 1)) q p e f (mark_from (step_at steps i) (step_at steps (i + 1)) (up i more) e f))
      (numbers_drop steps (i + 1) q p more)
      (ap (max (steps_number once q p)) (sym (numbers_drop steps i q p (omega arith))) ∙ h.numbers q p);
  rising = h.rising;
  ahead = (let P : ℕ → ℕ × ℕ × Bool → Type 0 = λ n e. (k : ℕ) → n ≤ k → k < length steps → IsBefore e (step_at steps k) in
      let narrower : (e : ℕ × ℕ × Bool) → P i e → P (i + 1) e = λ e g k le inside. g k (omega arith) inside in
      All-weaker (P i) (P (i + 1)) narrower once h.ahead);
}
  where
    absorb : (a s t r u d : ℕ) → s ≤ t → u ≡ max t r → max a (max s u) ≡ d → max a u ≡ d
    absorb a s t r u d le eu ed = omega arith

pub once_numbers : (steps : List (ℕ × ℕ × Bool)) (i : ℕ) (once : List (ℕ × ℕ × Bool)) → length steps ≤ i → AreOnce steps i once → HasSameNumbers once steps
once_numbers steps i once le h q p =
    let none : steps_number (drop i steps) q p ≡ 0 = ap (λ (l : List (ℕ × ℕ × Bool)). steps_number l q p) (drop_all i steps le) in
    alone (steps_number once q p) (steps_number (drop i steps) q p) (steps_number steps q p) none (h.numbers q p)
  where
    alone : (a b d : ℕ) → b ≡ 0 → max a b ≡ d → a ≡ d
    alone a b d e f = omega arith

-- the numbers don't depend on the order
number_within : (xs : List (ℕ × ℕ × Bool)) (q p m : ℕ) → All (λ s. step_number s q p ≤ m) xs → steps_number xs q p ≤ m
number_within [] q p m h = omega arith
number_within (x ∷ xs) q p m h =
    let here : step_number x q p ≤ m = h 0 x (omega arith) in
    let rest : steps_number xs q p ≤ m = number_within xs q p m (All-tail (λ s. step_number s q p ≤ m) x xs h) in
    both (step_number x q p) (steps_number xs q p) here rest
  where
    both : (a b : ℕ) → a ≤ m → b ≤ m → max a b ≤ m
    both a b l k = omega arith

each_within : (xs : List (ℕ × ℕ × Bool)) (q p m : ℕ) → steps_number xs q p ≤ m → All (λ s. step_number s q p ≤ m) xs
each_within [] q p m h = All-nil _
each_within (x ∷ xs) q p m h =
    All-cons (λ s. step_number s q p ≤ m) x xs (left (step_number x q p) (steps_number xs q p) h) (each_within xs q p m (right (step_number x q p) (steps_number xs q p) h))
  where
    left : (a b : ℕ) → max a b ≤ m → a ≤ m
    left a b l = omega arith

    right : (a b : ℕ) → max a b ≤ m → b ≤ m
    right a b l = omega arith

pub numbers_permuted : (xs ys : List (ℕ × ℕ × Bool)) → IsPermutation xs ys → HasSameNumbers ys xs
numbers_permuted xs ys moved q p =
    let back : IsPermutation ys xs = IsPermutation-sym xs ys moved in
    let P : ℕ → ℕ × ℕ × Bool → Type 0 = λ m s. step_number s q p ≤ m in
    let le : steps_number ys q p ≤ steps_number xs q p = number_within ys q p _ (All-permutation (P (steps_number xs q p)) xs ys moved (each_within xs q p _ (self (steps_number xs q p)))) in
    let ge : steps_number xs q p ≤ steps_number ys q p = number_within xs q p _ (All-permutation (P (steps_number ys q p)) ys xs back (each_within ys q p _ (self (steps_number ys q p)))) in
    both (steps_number ys q p) (steps_number xs q p) le ge
  where
    self : (n : ℕ) → n ≤ n
    self n = omega arith

    both : (a b : ℕ) → a ≤ b → b ≤ a → a ≡ b
    both a b l k = omega arith

-- what a sort leaves
bools_rise : (m n : Bool) → is_lt (bool_cmp n m) ≡ false → m ≡ true → n ≡ true
bools_rise false n e f = absurd (cc)
bools_rise true false e f = absurd (cc)
bools_rise true true e f = refl

ordered : (s t : ℕ × ℕ × Bool) (a b : Ordering) → MatchOrdering a (t.0 < s.0) (t.0 ≡ s.0) (s.0 < t.0) → MatchOrdering b (t.1 < s.1) (t.1 ≡ s.1) (s.1 < t.1) → is_lt (ordering_then (ordering_then a b) (bool_cmp t.2 s.2)) ≡ false → IsNotAfter s t
ordered s t Less b h k e = absurd (cc)
ordered s t Equal Less h k e = absurd (cc)
ordered s t Equal Equal h k e = inr (sym h, sym k, bools_rise s.2 t.2 e)
ordered s t Equal Greater h k e = inl (inr (sym h, k))
ordered s t Greater b h k e = inl (inl h)

pub sorted_steps : (steps : List (ℕ × ℕ × Bool)) → IsSorted (λ (x y : ℕ × ℕ × Bool). ordering_then (ordering_then (nat_cmp x.0 y.0) (nat_cmp x.1 y.1)) (bool_cmp x.2 y.2)) steps → AreSorted steps
sorted_steps steps h k lt =
    let s : ℕ × ℕ × Bool = step_at steps k in
    let t : ℕ × ℕ × Bool = step_at steps (k + 1) in
    ordered s t (nat_cmp t.0 s.0) (nat_cmp t.1 s.1) (ranked t.0 s.0 _ refl) (ranked t.1 s.1 _ refl) (h k (0, 0, false) (omega arith) lt)
