-- Numbers of picks.
use Rattle.std.proofs.Common.{◌≡◌, ◌≢◌, ℕ, zero, suc, ◌+◌, ◌<◌, ◌≤◌, Bool, true, false, cond, eqb, nat_lt, ◌&&◌, List, [], ◌∷◌, ◌++◌, length, get_or, Some, refl, sym, ◌∙◌, ap, subst, arith, inl, inr}
use Rattle.std.specs.Prelude.{slice_get}
use Rattle.std.specs.Bool.{Decides}
use Rattle.std.specs.List.{AllPairs, IsDistinct}
use Rattle.std.proofs.lemmas.Bool.{cases_lt, ltb-true, ltb-false}
use Rattle.std.proofs.lemmas.Bool.Decides.{Decides-eqb}
use Rattle.std.proofs.lemmas.List.{get_or_append_left, get_or_push}
use Rattle.std.proofs.lemmas.Map.Made.{AllPairs-from_IsDistinct}
use Rattle.std.proofs.lemmas.Option.{same_Some, slice_get_within, get_or_from_slice_get}
use Rattle.strategy_play.specs.Lead.{AreNumbers}
use Rattle.strategy_play.proofs.Leading.{and_left, and_right}

pub same_pair : (p q : ℕ × ℕ) → (eqb p.0 q.0 && eqb p.1 q.1) ≡ true → q ≡ p
same_pair p q e =
    let first : p.0 ≡ q.0 = (Decides-eqb p.0 q.0).0 (and_left (eqb p.0 q.0) (eqb p.1 q.1) e) in
    let second : p.1 ≡ q.1 = (Decides-eqb p.1 q.1).0 (and_right (eqb p.0 q.0) (eqb p.1 q.1) e) in
    ap (λ (x : ℕ). (x, q.1)) (sym first) ∙ ap (λ (y : ℕ). (p.0, y)) (sym second)

get_before : {X : Type 0} (xs ys : List X) (n : ℕ) (x : X) → slice_get xs n ≡ Some x → slice_get (xs ++ ys) n ≡ Some x
get_before [] ys n x e = absurd (cc)
get_before (y ∷ xs) ys zero x e = e
get_before (y ∷ xs) ys (suc n) x e = get_before xs ys n x e

get_kept : (keys new : List (ℕ × ℕ)) (p x : ℕ × ℕ) (n : ℕ) (there : Bool) → new ≡ cond there keys (keys ++ p ∷ []) → slice_get keys n ≡ Some x → slice_get new n ≡ Some x
get_kept keys new p x n true is e = ap (λ ks. slice_get ks n) is ∙ e
get_kept keys new p x n false is e = ap (λ ks. slice_get ks n) is ∙ get_before keys (p ∷ []) n x e

abbrev pub AreNumbered : List (ℕ × ℕ) → List (ℕ × ℕ) → List ℕ → ℕ → Type 0
AreNumbered picks keys numbers count = (i : ℕ) → i < count → slice_get keys (get_or numbers i 0) ≡ Some (get_or picks i (0, 0))

pub numbers_more : (picks keys new : List (ℕ × ℕ)) (numbers : List ℕ) (count number : ℕ) (there : Bool) → new ≡ cond there keys (keys ++ get_or picks count (0, 0) ∷ [])
    → slice_get new number ≡ Some (get_or picks count (0, 0)) → length numbers ≡ count → AreNumbered picks keys numbers count → AreNumbered picks new (numbers ++ number ∷ []) (count + 1)
numbers_more picks keys new numbers count number there is here size old i lt = elim (cases_lt i count) [
  | inl before ↦ ap (slice_get new) (get_or_append_left numbers (number ∷ []) 0 i (omega arith)) ∙ get_kept keys new (get_or picks count (0, 0)) (get_or picks i (0, 0)) (get_or numbers i 0) there is (old i before)
  | inr after ↦ (let same : length numbers ≡ i = omega arith in
      let at : count ≡ i = omega arith in
      ap (slice_get new) (get_or_push numbers number 0 i same) ∙ here ∙ ap (λ k. Some (get_or picks k (0, 0))) at)
]

-- no two places of distinct keys have one key
key_once : (keys : List (ℕ × ℕ)) → AllPairs (λ p q. p ≢ q) keys → (m n : ℕ) (p : ℕ × ℕ) → slice_get keys m ≡ Some p → slice_get keys n ≡ Some p → m ≡ n
key_once keys once m n p at_m at_n = by (nat_lt m n) refl (nat_lt n m) refl
  where
    apart : (i j : ℕ) → slice_get keys i ≡ Some p → slice_get keys j ≡ Some p → i < j → ⊥
    apart i j at_i at_j less = once i j p less (slice_get_within keys j p at_j) (get_or_from_slice_get keys i p p at_i ∙ sym (get_or_from_slice_get keys j p p at_j))

    by : (b : Bool) → nat_lt m n ≡ b → (c : Bool) → nat_lt n m ≡ c → m ≡ n
    by true e c f = absurd (apart m n at_m at_n (ltb-true m n e))
    by false e true f = absurd (apart n m at_n at_m (ltb-true n m f))
    by false e false f = omega (arith, ltb-false m n e, ltb-false n m f)

pub pair_decides : (p q : ℕ × ℕ) → Decides (eqb p.0 q.0 && eqb p.1 q.1) (p ≡ q)
pair_decides p q = (λ e. sym (same_pair p q e), λ e. subst (λ r. (eqb p.0 r.0 && eqb p.1 r.1) ≡ true) e (itself p))
  where
    itself : (p : ℕ × ℕ) → (eqb p.0 p.0 && eqb p.1 p.1) ≡ true
    itself p = ap (λ b. b && eqb p.1 p.1) ((Decides-eqb p.0 p.0).1 refl) ∙ (Decides-eqb p.1 p.1).1 refl

pub numbers_are : (picks keys : List (ℕ × ℕ)) (numbers : List ℕ) (count : ℕ) → length numbers ≡ length picks → length picks ≤ count → IsDistinct (λ (p q : ℕ × ℕ). eqb p.0 q.0 && eqb p.1 q.1) keys → AreNumbered picks keys numbers count → AreNumbers picks numbers
numbers_are picks keys numbers count size all distinct are = record {
  count = size;
  same = λ i j in_i in_j e. same_Some _ _ (sym (are i (omega arith)) ∙ ap (slice_get keys) e ∙ are j (omega arith));
  once = λ i j in_i in_j e.
      key_once keys (AllPairs-from_IsDistinct pair_decides keys distinct) (get_or numbers i 0) (get_or numbers j 0) (get_or picks j (0, 0))
      (are i (omega arith) ∙ ap (λ (p : ℕ × ℕ). Some p) e) (are j (omega arith));
}
