-- The bounds that are tried, one after another.
use Rattle.std.proofs.Common.{◌≡◌, ℕ, zero, suc, ◌+◌, ◌*◌, ◌<◌, ◌≤◌, Bool, true, false, cond, nat_eq, nat_lt, min, Some, None, inl, inr, refl, sym, ◌∙◌, arith}
use borrow.Author.Tests.{ltb-true, ltb-false}
use Rattle.std.proofs.lemmas.Bool.Decides.{Decides-eqb}
use Rattle.dual_game.specs.declared.bounds.Bounds.{Bounds}
use Rattle.dual_game.specs.Bounds.{AreBounds, IsTried, tried_after}

some_is : (m n : ℕ) → Some m ≡ Some n → m ≡ n
some_is m n e = cc

pub tried_first : (b : Bounds) → AreBounds b → IsTried b b.first
tried_first b are = by (nat_lt b.first b.last) refl
  where
    by : (t : Bool) → nat_lt b.first b.last ≡ t → IsTried b b.first
    by true e = inl (0, omega arith, ltb-true b.first b.last e)
    by false e = inr (omega (arith, ltb-false b.first b.last e, are.ordered))

-- the bound after k is the lesser of k + step and last, and k is below last
pub after_is : (b : Bounds) (k n : ℕ) → k ≤ b.last → tried_after b k ≡ Some n → (n ≡ min (k + b.step) b.last) × (k < b.last)
after_is b k n le e = by (nat_eq k b.last) refl e
  where
    by : (t : Bool) → nat_eq k b.last ≡ t → cond t None (Some (min (k + b.step) b.last)) ≡ Some n → (n ≡ min (k + b.step) b.last) × (k < b.last)
    by true is h = absurd (cc)
    by false is h = (sym (some_is (min (k + b.step) b.last) n h), omega (arith, le, differ))
      where
        differ : k ≡ b.last → ⊥
        differ same = absurd (clash (sym is ∙ (Decides-eqb k b.last).1 same))
          where
            clash : false ≡ true → ⊥
            clash e = cc

pub after_last : (b : Bounds) (k : ℕ) → tried_after b k ≡ None → k ≡ b.last
after_last b k e = by (nat_eq k b.last) refl e
  where
    by : (t : Bool) → nat_eq k b.last ≡ t → cond t None (Some (min (k + b.step) b.last)) ≡ None → k ≡ b.last
    by true is h = (Decides-eqb k b.last).0 is
    by false is h = absurd (cc)

pub tried_low : (b : Bounds) (k : ℕ) → IsTried b k → k ≤ b.last
tried_low b k (inl h) = omega (arith, h.2)
tried_low b k (inr h) = omega (arith, h)

more_steps : (i step : ℕ) → (suc i) * step ≡ i * step + step
more_steps i step = omega arith

pub tried_next : (b : Bounds) (k n : ℕ) → IsTried b k → tried_after b k ≡ Some n → IsTried b n
tried_next b k n tried e = by (after_is b k n (tried_low b k tried) e) tried
  where
    by : (n ≡ min (k + b.step) b.last) × (k < b.last) → IsTried b k → IsTried b n
    by h (inr last) = absurd (omega (arith, h.1, last))
    by h (inl t) = go (nat_lt (k + b.step) b.last) refl
      where
        go : (c : Bool) → nat_lt (k + b.step) b.last ≡ c → IsTried b n
        go true l =
            let less : k + b.step < b.last = ltb-true (k + b.step) b.last l in
            let is : n ≡ k + b.step = omega (arith, h.0, less) in
            let steps : suc t.0 * b.step ≡ t.0 * b.step + b.step = more_steps t.0 b.step in
            inl (suc t.0, omega (arith, is, t.1, steps), omega (arith, is, less))
        go false l = inr (omega (arith, h.0, ltb-false (k + b.step) b.last l))

-- j steps are at most i, where they lead below i + 1 steps
few_steps : (i j step : ℕ) → 1 ≤ step → j * step < suc i * step → j ≤ i
few_steps i zero step some h = omega arith
few_steps zero (suc j) step some h =
    let a : suc j * step ≡ j * step + step = more_steps j step in
    let b : 1 * step ≡ step = omega arith in
    absurd (omega (arith, h, a, b))
few_steps (suc i) (suc j) step some h =
    let a : suc j * step ≡ j * step + step = more_steps j step in
    let b : suc (suc i) * step ≡ suc i * step + step = more_steps (suc i) step in
    let le : j ≤ i = few_steps i j step some (omega (arith, h, a, b)) in
    omega (arith, le)

steps_more : (i j step : ℕ) → j ≤ i → j * step ≤ i * step
steps_more i zero step le = omega arith
steps_more zero (suc j) step le = absurd (omega arith)
steps_more (suc i) (suc j) step le =
    let a : suc j * step ≡ j * step + step = more_steps j step in
    let b : suc i * step ≡ i * step + step = more_steps i step in
    let h : j * step ≤ i * step = steps_more i j step (omega arith) in
    omega (arith, a, b, h)

-- no bound is tried between one and the next
pub none_between : (b : Bounds) (k n j : ℕ) → AreBounds b → IsTried b k → tried_after b k ≡ Some n → IsTried b j → j < n → j ≤ k
none_between b k n j are tried e other less = by (after_is b k n (tried_low b k tried) e) tried other
  where
    by : (n ≡ min (k + b.step) b.last) × (k < b.last) → IsTried b k → IsTried b j → j ≤ k
    by h (inr last) o = absurd (omega (arith, h.1, last))
    by h (inl t) (inr last) = absurd (omega (arith, h.0, last, less))
    by h (inl t) (inl o) =
        let steps : suc t.0 * b.step ≡ t.0 * b.step + b.step = more_steps t.0 b.step in
        let below : o.0 * b.step < suc t.0 * b.step = omega (arith, h.0, less, o.1, t.1, steps) in
        let few : o.0 ≤ t.0 = few_steps t.0 o.0 b.step are.rising below in
        let le : o.0 * b.step ≤ t.0 * b.step = steps_more t.0 o.0 b.step few in
        omega (arith, le, o.1, t.1)

pub none_before : (b : Bounds) (j : ℕ) → AreBounds b → IsTried b j → b.first ≤ j
none_before b j are (inl o) = omega (arith, o.1)
none_before b j are (inr last) = omega (arith, are.ordered, last)
