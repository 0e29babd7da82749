-- The places of a lasso, one behind another.
use Rattle.std.proofs.Common.{◌≡◌, ℕ, zero, suc, ◌+◌, ◌*◌, ◌-◌, ◌%◌, ◌<◌, ◌≤◌, Bool, true, false, if◌then◌else◌, nat_lt, refl, sym, ◌∙◌, ap, arith}
use borrow.Author.Tests.{ltb-true, ltb-false}
use Rattle.std.proofs.Math.Nat.{suc-mod, mod_self}
use Rattle.std.proofs.lemmas.Nat.{mod_below, mod-mul-add}

pub chosen_below : {X : Type 0} (n s : ℕ) (x y : X) → n < s → (if nat_lt n s then x else y) ≡ x
chosen_below n s x y l = by (nat_lt n s) refl
  where
    by : (b : Bool) → nat_lt n s ≡ b → (if b then x else y) ≡ x
    by true e = refl
    by false e = absurd (omega (arith, ltb-false n s e))

pub chosen_above : {X : Type 0} (n s : ℕ) (x y : X) → s ≤ n → (if nat_lt n s then x else y) ≡ y
chosen_above n s x y l = by (nat_lt n s) refl
  where
    by : (b : Bool) → nat_lt n s ≡ b → (if b then x else y) ≡ y
    by true e = absurd (omega (arith, ltb-true n s e))
    by false e = refl

pub small_mod : (n c : ℕ) → n < c → n % c ≡ n
small_mod n c l = let e : 0 * c + n ≡ n = omega arith in ap (λ k. k % c) (sym e) ∙ mod-mul-add 0 c n l

-- the place of letter n, where the stem has s places and the cycle c
pub place : ℕ → ℕ → ℕ → ℕ
place s c n = if nat_lt n s then n else (s + (n - s) % c)

-- the place behind a place
pub next_place : ℕ → ℕ → ℕ → ℕ
next_place s c i = if nat_lt (suc i) (s + c) then suc i else s

module _ (s c : ℕ) (some : 0 < c) where
  pub place_before : (n : ℕ) → n < s → place s c n ≡ n
  unfolding place
  place_before n l = chosen_below n s n (s + (n - s) % c) l

  pub place_after : (n : ℕ) → s ≤ n → place s c n ≡ s + (n - s) % c
  unfolding place
  place_after n l = chosen_above n s n (s + (n - s) % c) l

  next_within : (i : ℕ) → suc i < s + c → next_place s c i ≡ suc i
  unfolding next_place
  next_within i l = chosen_below (suc i) (s + c) (suc i) s l

  next_last : (i : ℕ) → s + c ≤ suc i → next_place s c i ≡ s
  unfolding next_place
  next_last i l = chosen_above (suc i) (s + c) (suc i) s l

  pub next_inside : (i : ℕ) → next_place s c i < s + c
  next_inside i = by (nat_lt (suc i) (s + c)) refl
    where
      by : (b : Bool) → nat_lt (suc i) (s + c) ≡ b → next_place s c i < s + c
      by true e = let l = ltb-true (suc i) (s + c) e in omega (arith, l, next_within i l)
      by false e = let l = ltb-false (suc i) (s + c) e in omega (arith, next_last i l, some)

  pub place_first : place s c 0 ≡ 0
  place_first = by s refl
    where
      by : (n : ℕ) → s ≡ n → place s c 0 ≡ 0
      by zero e =
          let at : place s c 0 ≡ s + (0 - s) % c = place_after 0 (omega (arith, e)) in
          let none : 0 - s ≡ 0 = omega (arith, e) in
          at ∙ ap (λ k. s + k % c) none ∙ ap (λ k. s + k) (small_mod 0 c some) ∙ omega (arith, e)
      by (suc n) e = place_before 0 (omega (arith, e))

  pub place_within : (n : ℕ) → place s c n < s + c
  place_within n = by (nat_lt n s) refl
    where
      by : (b : Bool) → nat_lt n s ≡ b → place s c n < s + c
      by true e = let l = ltb-true n s e in omega (arith, l, place_before n l)
      by false e = let l = ltb-false n s e in omega (arith, place_after n l, mod_below (n - s) c some)

  pub place_next : (n : ℕ) → next_place s c (place s c n) ≡ place s c (suc n)
  place_next n = by (nat_lt n s) refl
    where
      in_stem : n < s → (b : Bool) → nat_lt (suc n) s ≡ b → place s c (suc n) ≡ suc n
      in_stem l true e = place_before (suc n) (ltb-true (suc n) s e)
      in_stem l false e =
          let is : s ≡ suc n = omega (arith, l, ltb-false (suc n) s e) in
          let none : suc n - s ≡ 0 = omega (arith, is) in
          place_after (suc n) (omega (arith, is)) ∙ ap (λ k. s + k % c) none ∙ ap (λ k. s + k) (small_mod 0 c some) ∙ omega (arith, is)

      in_cycle : s ≤ n → (b : Bool) → nat_lt (suc ((n - s) % c)) c ≡ b → next_place s c (s + (n - s) % c) ≡ s + suc ((n - s) % c) % c
      in_cycle l true e =
          let r : suc ((n - s) % c) < c = ltb-true (suc ((n - s) % c)) c e in
          next_within (s + (n - s) % c) (omega (arith, r)) ∙ omega (arith, small_mod (suc ((n - s) % c)) c r)
      in_cycle l false e =
          let r : suc ((n - s) % c) ≡ c = omega (arith, ltb-false (suc ((n - s) % c)) c e, mod_below (n - s) c some) in
          next_last (s + (n - s) % c) (omega (arith, r)) ∙ omega (arith, ap (λ k. k % c) r ∙ mod_self c)

      by : (b : Bool) → nat_lt n s ≡ b → next_place s c (place s c n) ≡ place s c (suc n)
      by true e =
          let l = ltb-true n s e in
          ap (next_place s c) (place_before n l) ∙ next_within n (omega (arith, l, some)) ∙ sym (in_stem l (nat_lt (suc n) s) refl)
      by false e =
          let l = ltb-false n s e in
          let step : suc n - s ≡ suc (n - s) = omega (arith, l) in
          ap (next_place s c) (place_after n l) ∙ in_cycle l (nat_lt (suc ((n - s) % c)) c) refl ∙ ap (λ k. s + k) (sym (suc-mod (n - s) c)) ∙ ap (λ k. s + k % c) (sym step)
          ∙ sym (place_after (suc n) (omega (arith, l)))
