-- The initial vector, and what is at or above it.
use Rattle.std.proofs.Common.{◌≡◌, ℕ, ◌<◌, Bool, true, false, List, length, refl, sym, ◌∙◌, subst, arith, Option, Some, None, inl, inr}
use Rattle.std.specs.Prelude.{ℤ, pos, negsuc, ◌≤ℤ◌, int_le}
use Rattle.std.proofs.lemmas.Int.{ints}
use Rattle.std.proofs.lemmas.Bool.{cases_eq}
use Rattle.std.proofs.lemmas.List.FromFn.{get_or-map-range_with_len, length-map-range_with_len}
use Rattle.game_form.specs.Vector.{lane, vector, begins}
use Rattle.counter_vec.specs.Counters.{at_or_below}
use Rattle.counter_vec.proofs.Vectors.{at_or_below-lanes, lanes-at_or_below}

module _ (init : Option ℕ) (n : ℕ) (v : List ℤ) (len : length v ≡ n) where
  here : (q : ℕ) → q < n → lane (vector n (begins init)) q ≡ begins init q
  here q lt = get_or-map-range_with_len (begins init) 0 n q q (pos 0) lt (omega arith)

  size : length (vector n (begins init)) ≡ n
  size = length-map-range_with_len (begins init) 0 n

  all_at_most : ((q : ℕ) → q < n → begins init q ≤ℤ lane v q) → at_or_below (vector n (begins init)) v ≡ true
  all_at_most each =
      lanes-at_or_below (vector n (begins init)) v
      (record { same_length = size ∙ sym len; lanes = λ q lt. (let in_n : q < n = omega (arith, size) in rw (here q in_n) (each q in_n)) })

  at_most : (q : ℕ) → q < n → at_or_below (vector n (begins init)) v ≡ true → begins init q ≤ℤ lane v q
  at_most q lt h =
      let below = at_or_below-lanes (vector n (begins init)) v h in
      let in_s : q < length (vector n (begins init)) = omega (arith, size) in
      subst (λ x. x ≤ℤ lane v q) (here q lt) (below.lanes q in_s)

pub none_below : (n : ℕ) (v : List ℤ) → length v ≡ n → ((q : ℕ) → q < length v → negsuc 0 ≤ℤ lane v q) → at_or_below (vector n (begins None)) v ≡ true
none_below n v len low = all_at_most None n v len (λ q lt. low q (omega arith))

begins_low : (first q : ℕ) (x : ℤ) → negsuc 0 ≤ℤ x → (q ≡ first → pos 0 ≤ℤ x) → begins (Some first) q ≤ℤ x
begins_low first q x low at = elim (cases_eq q first) [ inl e ↦ (let h = at e in grind (arith, ints)) | inr ne ↦ grind (arith, ints) ]

begins_here : (first : ℕ) → begins (Some first) first ≡ pos 0
begins_here first = grind arith

same_bool : (a b : Bool) → (a ≡ true → b ≡ true) → (b ≡ true → a ≡ true) → a ≡ b
same_bool true b h k = sym (h refl)
same_bool false true h k = k refl
same_bool false false h k = refl

le_true : (x : ℤ) → int_le (pos 0) x ≡ true → pos 0 ≤ℤ x
le_true x h = grind (arith, ints)

true_le : (x : ℤ) → pos 0 ≤ℤ x → int_le (pos 0) x ≡ true
true_le x h = grind (arith, ints)

pub some_below : (first n : ℕ) (v : List ℤ) → length v ≡ n → first < n → ((q : ℕ) → q < length v → negsuc 0 ≤ℤ lane v q)
    → int_le (pos 0) (lane v first) ≡ at_or_below (vector n (begins (Some first))) v
some_below first n v len lt low =
    same_bool _ _
    (λ h. all_at_most (Some first) n v len (λ q in_n. begins_low first q (lane v q) (low q (omega arith)) (λ e. rw e (le_true (lane v first) h))))
    (λ h. true_le (lane v first) (subst (λ x. x ≤ℤ lane v first) (begins_here first) (at_most (Some first) n v len first lt h)))
