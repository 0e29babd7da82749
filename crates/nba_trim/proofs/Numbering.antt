-- New numbers of kept states: the place of each among them.
use Rattle.std.proofs.Common.{◌≡◌, ℕ, zero, suc, ◌+◌, ◌<◌, ◌≤◌, ◌⊎◌, inl, inr, Bool, true, false, not, cond, if◌then◌else◌, nat_eq, List, [], ◌∷◌, ◌++◌, length, get_or, set, Option, Some, None, refl, ap, sym, ◌∙◌, subst, arith}
use Rattle.std.specs.Option.{IfSome}
use Rattle.std.specs.List.{AllPairs, Contains, position, position_or_len}
use borrow.Author.Tests.{eqb-true, eqb-false, eq-eqb, lt-ltb}
use Rattle.std.proofs.lemmas.List.{length_push, get_or-set_same, get_or-set_other}
use Rattle.std.proofs.lemmas.List.Elements.{Contains-get_or, Contains-push, Contains-push_cases, Contains-append_left}
use Rattle.std.proofs.lemmas.List.Quantifiers.{all_pairs_push, position-Some}
use Rattle.nba_trim.specs.Search.{at}
use Rattle.nba_trim.specs.Numbers.{AreTrue, AreNumbers}
use Rattle.nba_trim.specs.Trimmed.{number_of}
use Rattle.nba_trim.proofs.Trues.{true_within}

first_passes : (p : ℕ → Bool) (xs : List ℕ) (k d : ℕ) → k < length xs → p (get_or xs k d) ≡ true → position_or_len p xs ≤ k
first_passes p [] k d l h = absurd (omega arith)
first_passes p (x ∷ xs) zero d l h = subst (λ b. cond (not b) (1 + position_or_len p xs) 0 ≤ 0) (sym h) (omega arith)
first_passes p (x ∷ xs) (suc k) d l h = go (p x) (first_passes p xs k d (omega arith) h)
  where
    go : (b : Bool) → position_or_len p xs ≤ k → cond (not b) (1 + position_or_len p xs) 0 ≤ suc k
    go true r = omega arith
    go false r = omega arith

no_position : (p : ℕ → Bool) (xs : List ℕ) (k d : ℕ) → position p xs ≡ None → k < length xs → p (get_or xs k d) ≡ true → ⊥
no_position p xs k d none l h =
    let low = first_passes p xs k d l h in
    let some : position p xs ≡ Some (position_or_len p xs) = ap (λ b. cond b (Some (position_or_len p xs)) None) (lt-ltb (position_or_len p xs) (length xs) (omega (arith, low))) in
    absurd (cc)

-- a kept state has a number, and a number is that of a kept state
pub record IsNumber (kept : List ℕ) (q k : ℕ) : Type 0 where
  pub within : k < length kept
  pub is : get_or kept k 0 ≡ q

pub is_number : (kept : List ℕ) (q k : ℕ) → number_of kept q ≡ Some k → IsNumber kept q k
is_number kept q k h = let p = position-Some (nat_eq q) kept k 0 h in record { within = p.0; is = sym (eqb-true q (get_or kept k 0) p.1) }

pub record HasNumber (kept : List ℕ) (q : ℕ) : Type 0 where
  pub number : ℕ
  pub is : number_of kept q ≡ Some number

pub has_number : (kept : List ℕ) (q : ℕ) → Contains kept q → HasNumber kept q
has_number kept q c = go (number_of kept q) refl
  where
    go : (o : Option ℕ) → number_of kept q ≡ o → HasNumber kept q
    go (Some k) e = record { number = k; is = e }
    go None e = absurd (no_position (nat_eq q) kept c.0 q e c.1 (eq-eqb q (get_or kept c.0 q) (sym c.2)))

pub number_is : (numbers : List (Option ℕ)) (kept : List ℕ) → AreNumbers numbers kept → (q : ℕ) → get_or numbers q None ≡ number_of kept q
number_is numbers kept are q = go (number_of kept q) refl
  where
    nothing : number_of kept q ≡ None → (o : Option ℕ) → get_or numbers q None ≡ o → o ≡ None
    nothing e None f = refl
    nothing e (Some k) f = let g = are.given q k f in absurd (no_position (nat_eq q) kept k 0 e g.0 (eq-eqb q (get_or kept k 0) (sym g.1)))

    go : (o : Option ℕ) → number_of kept q ≡ o → get_or numbers q None ≡ number_of kept q
    go (Some k) e =
        let n = is_number kept q k e in
        ap (λ p. get_or numbers p None) (sym n.is) ∙ are.all k n.within ∙ sym e
    go None e = nothing e (get_or numbers q None) refl ∙ sym e

-- the states below a number of which it is told
pub record AreBelow (told : List Bool) (q : ℕ) (kept : List ℕ) : Type 0 where
  pub ascending : AllPairs (λ p q. p < q) kept
  pub fewer : length kept ≤ q
  pub sound : (x : ℕ) → Contains kept x → (x < q) × (at told x ≡ true)
  pub complete : (x : ℕ) → x < q → at told x ≡ true → Contains kept x

pub below_more : (told : List Bool) (q : ℕ) (kept : List ℕ) → AreBelow told q kept → AreBelow told (q + 1) (if at told q then kept ++ q ∷ [] else kept)
below_more told q kept h = go (at told q) refl
  where
    which : at told q ≡ true → (x : ℕ) → Contains kept x ⊎ (q ≡ x) → (x < q + 1) × (at told x ≡ true)
    which e x (inl c) = let s = h.sound x c in (omega (arith, s.0), s.1)
    which e x (inr i) = (omega arith, ap (at told) (sym i) ∙ e)

    whole : (x : ℕ) → x < q + 1 → at told x ≡ true → (b : Bool) → nat_eq x q ≡ b → Contains (kept ++ q ∷ []) x
    whole x l t true e = subst (λ y. Contains (kept ++ y ∷ []) x) (eqb-true x q e) (Contains-push kept x)
    whole x l t false e = let other : x ≡ q → ⊥ = eqb-false x q e in Contains-append_left kept (q ∷ []) x (h.complete x (omega arith) t)

    rest : at told q ≡ false → (x : ℕ) → x < q + 1 → at told x ≡ true → (b : Bool) → nat_eq x q ≡ b → Contains kept x
    rest n x l t true e = let told_q : at told q ≡ true = ap (at told) (sym (eqb-true x q e)) ∙ t in absurd (cc)
    rest n x l t false e = let other : x ≡ q → ⊥ = eqb-false x q e in h.complete x (omega arith) t

    go : (b : Bool) → at told q ≡ b → AreBelow told (q + 1) (if b then kept ++ q ∷ [] else kept)
    go true e = record {
      ascending = all_pairs_push (λ p q. p < q) kept q h.ascending (λ k d l. (h.sound (get_or kept k d) (Contains-get_or kept k d l)).0);
      fewer = omega (arith, length_push kept q, h.fewer);
      sound = λ x c. which e x (Contains-push_cases kept q x c);
      complete = λ x l t. whole x l t (nat_eq x q) refl;
    }
    go false e = record {
      ascending = h.ascending;
      fewer = omega (arith, h.fewer);
      sound = λ x c. let s = h.sound x c in (omega (arith, s.0), s.1);
      complete = λ x l t. rest e x l t (nat_eq x q) refl;
    }

-- the first kept states have numbers
pub record AreGiven (numbers : List (Option ℕ)) (kept : List ℕ) (k : ℕ) : Type 0 where
  pub given : (q j : ℕ) → get_or numbers q None ≡ Some j → (j < k) × (get_or kept j 0 ≡ q)
  pub all : (j : ℕ) → j < k → get_or numbers (get_or kept j 0) None ≡ Some j

pub given_more : (numbers : List (Option ℕ)) (kept : List ℕ) (k : ℕ) → AllPairs (λ p q. p < q) kept → k < length kept → get_or kept k 0 < length numbers → AreGiven numbers kept k
    → AreGiven (set numbers (get_or kept k 0) (Some k)) kept (k + 1)
given_more numbers kept k ascending l within h = record {
  given = λ q j e. which q j (nat_eq q p) refl e;
  all = λ j m. whole j m (nat_eq j k) refl;
}
  where
    p : ℕ
    p = get_or kept k 0

    which : (q j : ℕ) (b : Bool) → nat_eq q (get_or kept k 0) ≡ b → get_or (set numbers (get_or kept k 0) (Some k)) q None ≡ Some j → (j < k + 1) × (get_or kept j 0 ≡ q)
    which q j true e f =
        let here : q ≡ get_or kept k 0 = eqb-true q (get_or kept k 0) e in
        let some : Some k ≡ Some j = sym (get_or-set_same numbers (get_or kept k 0) (Some k) None within) ∙ ap (λ x. get_or (set numbers (get_or kept k 0) (Some k)) x None) (sym here) ∙ f in
        let j_is : k ≡ j = cc in
        (omega arith, ap (λ i. get_or kept i 0) (sym j_is) ∙ sym here)
    which q j false e f =
        let g = h.given q j (sym (get_or-set_other numbers (get_or kept k 0) q (Some k) None (eqb-false q (get_or kept k 0) e)) ∙ f) in
        (omega (arith, g.0), g.1)

    whole : (j : ℕ) → j < k + 1 → (b : Bool) → nat_eq j k ≡ b → get_or (set numbers (get_or kept k 0) (Some k)) (get_or kept j 0) None ≡ Some j
    whole j m true e =
        let here : j ≡ k = eqb-true j k e in
        ap (λ i. get_or (set numbers (get_or kept k 0) (Some k)) (get_or kept i 0) None) here ∙ get_or-set_same numbers (get_or kept k 0) (Some k) None within ∙ ap Some (sym here)
    whole j m false e =
        let other : j ≡ k → ⊥ = eqb-false j k e in
        let before : j < k = omega arith in
        let less : get_or kept j 0 < get_or kept k 0 = ascending j k 0 before l in
        get_or-set_other numbers (get_or kept k 0) (get_or kept j 0) (Some k) None (λ same. absurd (omega arith)) ∙ h.all j before

pub numbers_are : (told : List Bool) (numbers : List (Option ℕ)) (kept : List ℕ) (k : ℕ) → AreTrue told kept → length numbers ≡ length told → k ≡ length kept → AreGiven numbers kept k → AreNumbers numbers kept
numbers_are told numbers kept k are count e h = record {
  states = λ i d l. let t = true_within told (get_or kept i d) (are.sound (get_or kept i d) (Contains-get_or kept i d l)) in omega (arith, t, count);
  fewer = omega (arith, are.fewer, count);
  given = λ q j f. let g = h.given q j f in (omega (arith, g.0, e), g.1);
  all = λ j l. h.all j (omega (arith, e));
}

pub kept_state : (told : List Bool) (kept : List ℕ) (k d : ℕ) → AreTrue told kept → k < length kept → get_or kept k d < length told
kept_state told kept k d are l = true_within told (get_or kept k d) (are.sound (get_or kept k d) (Contains-get_or kept k d l))

pub number_within : (kept : List ℕ) (q : ℕ) (o : Option ℕ) → o ≡ number_of kept q → IfSome o (λ k. k < length kept)
number_within kept q None e = tt
number_within kept q (Some k) e = (is_number kept q k (sym e)).within
