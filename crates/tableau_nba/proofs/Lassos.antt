-- Positions of a lasso along its unrolling, and the laws of until and release on them.
use Rattle.std.proofs.Common.{◌≡◌, ℕ, zero, suc, ◌+◌, ◌-◌, ◌*◌, ◌/◌, ◌%◌, ◌<◌, ◌≤◌, ◌⊎◌, inl, inr, Bool, true, false, not, ◌&&◌, ◌||◌, cond, nat_lt, List, [], ◌∷◌, ◌++◌, length, refl, sym, ap, ◌∙◌, subst, arith}
use Rattle.std.specs.Prelude.{slice_get}
use Rattle.std.proofs.lemmas.Bool.{and_parts, and_from, both_ways, not-false, not-true, or_cases, lt-ltb, le-ltb, ltb-true, ltb-false}
use Rattle.std.proofs.lemmas.Nat.{div-add-mod', mod-mul-add, mod_below}
use Rattle.word_core.specs.Lasso.{LassoData, bits_at, bits_of, prefix, size}
use Rattle.ltl_form.specs.Meaning.{after, release_at, release_within, until_at, until_within}

-- the position of letter n of the unrolling
abbrev pub pos : LassoData → ℕ → ℕ
pos w zero = 0
pos w (suc n) = after w (pos w n)

or_second : (a b : Bool) → b ≡ true → (a || b) ≡ true
or_second true b h = refl
or_second false b h = h

one_time : (x y : ℕ) → (x + 1) * y ≡ x * y + y
one_time x y = omega arith

mod_once : (j k : ℕ) → 0 < k → (j + k) % k ≡ j % k
mod_once j k l =
    let a : j / k * k + j % k ≡ j = div-add-mod' j k in
    let b : (j / k + 1) * k ≡ j / k * k + k = one_time (j / k) k in
    let e : (j / k + 1) * k + j % k ≡ j + k = omega arith in
    ap (λ n. n % k) (sym e) ∙ mod-mul-add (j / k + 1) k (j % k) (mod_below j k l)

module _ (w : LassoData) (some : 0 < length w.cycle) where
  pos_early : (n : ℕ) → n < size w → pos w n ≡ n
  pos_early zero l = refl
  pos_early (suc n) l =
      let e : pos w n ≡ n = pos_early n (omega arith) in
      ap (after w) e ∙ ap (λ b. cond b (suc n) (length w.stem)) (lt-ltb (suc n) (size w) l)

  pos_end : pos w (size w) ≡ length w.stem
  pos_end =
      let k : size w ≡ suc (size w - 1) = omega arith in
      let e : pos w (size w - 1) ≡ size w - 1 = pos_early (size w - 1) (omega arith) in
      ap (pos w) k ∙ ap (after w) e ∙ ap (λ b. cond b (suc (size w - 1)) (length w.stem)) (le-ltb (suc (size w - 1)) (size w) (omega arith))

  -- from the cycle on the positions repeat
  pos_later : (j : ℕ) → pos w (size w + j) ≡ pos w (length w.stem + j)
  pos_later zero =
      let a : size w + 0 ≡ size w = omega arith in
      let b : length w.stem + 0 ≡ length w.stem = omega arith in
      ap (pos w) a ∙ pos_end ∙ sym (pos_early (length w.stem) (omega arith)) ∙ ap (pos w) (sym b)
  pos_later (suc j) =
      let a : size w + suc j ≡ suc (size w + j) = omega arith in
      let b : length w.stem + suc j ≡ suc (length w.stem + j) = omega arith in
      ap (pos w) a ∙ ap (after w) (pos_later j) ∙ ap (pos w) (sym b)

  bits_later : (j : ℕ) → bits_at w (size w + j) ≡ bits_at w (length w.stem + j)
  bits_later j =
      ap (λ b. bits_of (cond b (slice_get w.stem (size w + j)) (slice_get w.cycle ((size w + j - length w.stem) % length w.cycle)))) (le-ltb (size w + j) (length w.stem) (omega arith))
      ∙ ap (λ n. bits_of (slice_get w.cycle n)) turn
      ∙ sym (ap (λ b. bits_of (cond b (slice_get w.stem (length w.stem + j)) (slice_get w.cycle ((length w.stem + j - length w.stem) % length w.cycle)))) (le-ltb (length w.stem + j) (length w.stem) (omega arith)))
    where
      turn : (size w + j - length w.stem) % length w.cycle ≡ (length w.stem + j - length w.stem) % length w.cycle
      turn =
          let a : size w + j - length w.stem ≡ j + length w.cycle = omega arith in
          let b : length w.stem + j - length w.stem ≡ j = omega arith in
          ap (λ n. n % length w.cycle) a ∙ mod_once j (length w.cycle) some ∙ ap (λ n. n % length w.cycle) (sym b)

  bits_before : (b n : ℕ) → n < b → bits_at w n ≡ bits_at w (pos w n)
  bits_before zero n l = absurd (omega arith)
  bits_before (suc b) n l = go (nat_lt n (size w)) refl (λ m k. bits_before b m k)
    where
      go : (t : Bool) → nat_lt n (size w) ≡ t → ((m : ℕ) → m < b → bits_at w m ≡ bits_at w (pos w m)) → bits_at w n ≡ bits_at w (pos w n)
      go true e rec = ap (bits_at w) (sym (pos_early n (ltb-true n (size w) e)))
      go false e rec =
          let p : size w ≤ n = ltb-false n (size w) e in
          let k : n ≡ size w + (n - size w) = omega arith in
          ap (bits_at w) k ∙ bits_later (n - size w) ∙ rec (length w.stem + (n - size w)) (omega arith) ∙ ap (bits_at w) (sym (pos_later (n - size w))) ∙ ap (λ m. bits_at w (pos w m)) (sym k)

  -- the letter at a place of the unrolling is that of its position
  pub bits_pos : (n : ℕ) → bits_at w n ≡ bits_at w (pos w n)
  bits_pos n = bits_before (suc n) n (omega arith)

  module _ (f g : ℕ → Bool) where
    pub until_from : (n k i : ℕ) → k < n → g (pos w (i + k)) ≡ true → ((j : ℕ) → j < k → f (pos w (i + j)) ≡ true) → until_within w f g n (pos w i) ≡ true
    until_from zero k i l h a = absurd (omega arith)
    until_from (suc n) zero i l h a =
        let e : i + 0 ≡ i = omega arith in
        ap (λ b. b || (f (pos w i) && until_within w f g n (pos w (suc i)))) (subst (λ m. g (pos w m) ≡ true) e h)
    until_from (suc n) (suc k) i l h a =
        let e : i + 0 ≡ i = omega arith in
        let first : f (pos w i) ≡ true = subst (λ m. f (pos w m) ≡ true) e (a 0 (omega arith)) in
        let s : i + suc k ≡ suc i + k = omega arith in
        let rest : until_within w f g n (pos w (suc i)) ≡ true =
        until_from n k (suc i) (omega arith) (subst (λ m. g (pos w m) ≡ true) s h) (λ j m. let t : i + suc j ≡ suc i + j = omega arith in subst (λ x. f (pos w x) ≡ true) t (a (suc j) (omega arith))) in
        or_second (g (pos w i)) (f (pos w i) && until_within w f g n (pos w (suc i))) (and_from _ _ first rest)

    pub until_to : (n i : ℕ) → until_within w f g n (pos w i) ≡ true → (k : ℕ) × (k < n) × (g (pos w (i + k)) ≡ true) × ((j : ℕ) → j < k → f (pos w (i + j)) ≡ true)
    until_to zero i h = absurd (both_ways false refl h)
    until_to (suc n) i h = go (or_cases _ _ h) (λ k. until_to n (suc i) k)
      where
        zero_more : i + 0 ≡ i
        zero_more = omega arith

        one_more : (k : ℕ) → suc i + k ≡ i + suc k
        one_more k = omega arith

        firsts : f (pos w i) ≡ true → (k : ℕ) → ((j : ℕ) → j < k → f (pos w (suc i + j)) ≡ true) → (j : ℕ) → j < suc k → f (pos w (i + j)) ≡ true
        firsts e k a zero l = subst (λ m. f (pos w m) ≡ true) (sym zero_more) e
        firsts e k a (suc j) l = subst (λ m. f (pos w m) ≡ true) (one_more j) (a j (omega arith))

        go : (g (pos w i) ≡ true) ⊎ ((f (pos w i) && until_within w f g n (pos w (suc i))) ≡ true)
            → (until_within w f g n (pos w (suc i)) ≡ true → (k : ℕ) × (k < n) × (g (pos w (suc i + k)) ≡ true) × ((j : ℕ) → j < k → f (pos w (suc i + j)) ≡ true))
            → (k : ℕ) × (k < suc n) × (g (pos w (i + k)) ≡ true) × ((j : ℕ) → j < k → f (pos w (i + j)) ≡ true)
        go (inl e) rec = (0, omega arith, subst (λ m. g (pos w m) ≡ true) (sym zero_more) e, λ j l. absurd (omega arith))
        go (inr e) rec =
            let p = and_parts _ _ e in
            let r = rec p.1 in
            (suc r.0, omega (arith, r.1), subst (λ m. g (pos w m) ≡ true) (one_more r.0) r.2, firsts p.0 r.0 r.3)

    pub until_first : (i : ℕ) → g (pos w i) ≡ true → until_at w f g (pos w i) ≡ true
    until_first i h = let e : i ≡ i + 0 = omega arith in until_from (size w) 0 i (omega arith) (subst (λ m. g (pos w m) ≡ true) e h) (λ j l. absurd (omega arith))

    pub until_step : (i : ℕ) → f (pos w i) ≡ true → until_at w f g (pos w (suc i)) ≡ true → until_at w f g (pos w i) ≡ true
    until_step i h k =
        let r = until_to (size w) (suc i) k in
        go r.0 r.1 r.2 (λ j l. all j r.0 l r.3) (nat_lt (suc r.0) (size w)) refl
      where
        zero_more : i + 0 ≡ i
        zero_more = omega arith

        one_more : (k : ℕ) → suc i + k ≡ i + suc k
        one_more k = omega arith

        all : (j : ℕ) → (k : ℕ) → j < suc k → ((m : ℕ) → m < k → f (pos w (suc i + m)) ≡ true) → f (pos w (i + j)) ≡ true
        all zero k l a = subst (λ m. f (pos w m) ≡ true) (sym zero_more) h
        all (suc j) k l a = subst (λ m. f (pos w m) ≡ true) (one_more j) (a j (omega arith))

        -- a full turn is left out
        back : (k : ℕ) → suc k ≡ size w → pos w (suc i + k) ≡ pos w (i + length w.stem)
        back k e =
            let a : suc i + k ≡ size w + i = omega arith in
            let b : length w.stem + i ≡ i + length w.stem = omega arith in
            ap (pos w) a ∙ pos_later i ∙ ap (pos w) b

        go : (k : ℕ) → k < size w → g (pos w (suc i + k)) ≡ true → ((j : ℕ) → j < suc k → f (pos w (i + j)) ≡ true) → (t : Bool) → nat_lt (suc k) (size w) ≡ t → until_at w f g (pos w i) ≡ true
        go k l e a true t = until_from (size w) (suc k) i (ltb-true (suc k) (size w) t) (subst (λ m. g (pos w m) ≡ true) (one_more k) e) a
        go k l e a false t =
            let p : size w ≤ suc k = ltb-false (suc k) (size w) t in
            let q : suc k ≡ size w = omega arith in
            until_from (size w) (length w.stem) i (omega arith) (subst (λ m. g m ≡ true) (back k q) e) (λ j m. a j (omega arith))

    -- an until whose right side doesn't hold now holds later, and its left side holds now
    pub until_waits : (i : ℕ) → until_at w f g (pos w i) ≡ true → g (pos w i) ≡ false → (f (pos w i) ≡ true) × (until_at w f g (pos w (suc i)) ≡ true)
    until_waits i h n = let r = until_to (size w) i h in go r.0 r.1 r.2 r.3
      where
        zero_more : i + 0 ≡ i
        zero_more = omega arith

        one_more : (k : ℕ) → i + suc k ≡ suc i + k
        one_more k = omega arith

        go : (k : ℕ) → k < size w → g (pos w (i + k)) ≡ true → ((j : ℕ) → j < k → f (pos w (i + j)) ≡ true) → (f (pos w i) ≡ true) × (until_at w f g (pos w (suc i)) ≡ true)
        go zero l e a = absurd (both_ways _ n (subst (λ m. g (pos w m) ≡ true) zero_more e))
        go (suc k) l e a = (
          subst (λ m. f (pos w m) ≡ true) zero_more (a 0 (omega arith)),
          until_from (size w) k (suc i) (omega arith) (subst (λ m. g (pos w m) ≡ true) (one_more k) e) (λ j m. subst (λ x. f (pos w x) ≡ true) (one_more j) (a (suc j) (omega arith))),
        )

  release_not : (f g : ℕ → Bool) (n p : ℕ) → release_within w f g n p ≡ not (until_within w (λ x. not (f x)) (λ x. not (g x)) n p)
  release_not f g zero p = refl
  release_not f g (suc n) p = go (g p) (f p) (release_not f g n (after w p))
    where
      go : (a b : Bool) → release_within w f g n (after w p) ≡ not (until_within w (λ x. not (f x)) (λ x. not (g x)) n (after w p))
          → (a && (b || release_within w f g n (after w p))) ≡ not (not a || (not b && until_within w (λ x. not (f x)) (λ x. not (g x)) n (after w p)))
      go true true e = refl
      go true false e = e
      go false b e = refl

  -- a release holds where its right side does and either its left side or the release at the next position
  pub release_open : (f g : ℕ → Bool) (i : ℕ) → release_at w f g (pos w i) ≡ true → (g (pos w i) ≡ true) × ((f (pos w i) ≡ true) ⊎ (release_at w f g (pos w (suc i)) ≡ true))
  release_open f g i h = (right (g (pos w i)) refl, left (f (pos w i)) refl (release_at w f g (pos w (suc i))) refl)
    where
      u : until_at w (λ x. not (f x)) (λ x. not (g x)) (pos w i) ≡ false
      u = not-true _ (sym (release_not f g (size w) (pos w i)) ∙ h)

      right : (b : Bool) → g (pos w i) ≡ b → b ≡ true
      right true e = refl
      right false e = absurd (both_ways _ u (until_first (λ x. not (f x)) (λ x. not (g x)) i (ap not e)))

      left : (b : Bool) → f (pos w i) ≡ b → (c : Bool) → release_at w f g (pos w (suc i)) ≡ c → (b ≡ true) ⊎ (c ≡ true)
      left true e c k = inl refl
      left false e true k = inr refl
      left false e false k =
          let v : until_at w (λ x. not (f x)) (λ x. not (g x)) (pos w (suc i)) ≡ true = not-false _ (sym (release_not f g (size w) (pos w (suc i))) ∙ k) in
          absurd (both_ways _ u (until_step (λ x. not (f x)) (λ x. not (g x)) i (ap not e) v))

-- m letters of the unrolling from letter i on
abbrev pub letters : LassoData → ℕ → ℕ → List ℕ
letters w i zero = []
letters w i (suc m) = bits_at w i ∷ letters w (suc i) m

letters_more : (w : LassoData) (i m : ℕ) → letters w i (suc m) ≡ letters w i m ++ bits_at w (i + m) ∷ []
letters_more w i zero = let e : i ≡ i + 0 = omega arith in ap (λ n. bits_at w n ∷ []) e
letters_more w i (suc m) = let e : suc i + m ≡ i + suc m = omega arith in ap (λ xs. bits_at w i ∷ xs) (letters_more w (suc i) m ∙ ap (λ n. letters w (suc i) m ++ bits_at w n ∷ []) e)

pub prefix_letters : (w : LassoData) (n : ℕ) → prefix w n ≡ letters w 0 n
prefix_letters w zero = refl
prefix_letters w (suc n) = let e : n ≡ 0 + n = omega arith in ap (λ xs. xs ++ bits_at w n ∷ []) (prefix_letters w n) ∙ ap (λ m. letters w 0 n ++ bits_at w m ∷ []) e ∙ sym (letters_more w 0 n)
