-- Walks over the positions of a lasso: one that has gone through the cycle once says no more.
use Rattle.std.proofs.Common.{◌≡◌, ℕ, zero, suc, ◌+◌, ◌-◌, ◌<◌, ◌≤◌, ◌⊎◌, inl, inr, Bool, true, false, not, ◌&&◌, ◌||◌, nat_lt, if◌then◌else◌, length, refl, ap, sym, ◌∙◌, arith}
use borrow.Author.Tests.{ltb-true, lt-ltb, le-ltb}
use Rattle.std.proofs.lemmas.Bool.{and_parts, and_from, cases_lt}
use Rattle.word_core.specs.Lasso.{LassoData, size}
use Rattle.ltl_form.specs.Meaning.{after, until_within, release_within}
use Rattle.ltl_form.proofs.Truths.{both_and, both_or, not_not}
use Rattle.ltl_form.proofs.SidesMean.{no_release}

none_plus : (m : ℕ) → 0 + m ≡ m
none_plus m = omega arith

one_plus : (n m : ℕ) → suc n + m ≡ suc (n + m)
one_plus n m = omega arith

module _ (w : LassoData) where
  pub after_next : (p : ℕ) → suc p < size w → after w p ≡ suc p
  after_next p l = ap (λ b. if b then suc p else length w.stem) (lt-ltb (suc p) (size w) l)

  pub after_last : (p : ℕ) → suc p ≡ size w → after w p ≡ length w.stem
  after_last p e = ap (λ b. if b then suc p else length w.stem) (le-ltb (suc p) (size w) (omega arith))

  pub after_below : (p : ℕ) → length w.stem < size w → p < size w → after w p < size w
  after_below p some l = go (nat_lt (suc p) (size w)) refl
    where
      go : (b : Bool) → nat_lt (suc p) (size w) ≡ b → (if b then suc p else length w.stem) < size w
      go true e = ltb-true (suc p) (size w) e
      go false e = some

  module _ (f g : ℕ → Bool) where
    abbrev U : ℕ → ℕ → Bool
    U = until_within w f g

    -- the position after n steps
    walk : ℕ → ℕ → ℕ
    walk zero p = p
    walk (suc n) p = walk n (after w p)

    -- f at the first n positions
    stays : ℕ → ℕ → Bool
    stays zero p = true
    stays (suc n) p = f p && stays n (after w p)

    step_cut : (a b u s v : Bool) → (b || (a && (u || (s && v)))) ≡ ((b || (a && u)) || ((a && s) && v))
    step_cut a true u s v = refl
    step_cut true false u s v = refl
    step_cut false false u s v = refl

    -- a walk of m steps more
    until_cut : (n m p : ℕ) → U (n + m) p ≡ (U n p || (stays n p && U m (walk n p)))
    unfolding walk stays
    until_cut zero m p = ap (λ k. U k p) (none_plus m)
    until_cut (suc n) m p = ap (λ k. U k p) (one_plus n m) ∙ both_or (g p) _ (g p) _ refl (both_and (f p) _ (f p) _ refl (until_cut n m (after w p))) ∙ step_cut (f p) (g p) _ _ _

    more_true : (x y : Bool) → x ≡ true → (x || y) ≡ true
    more_true true y h = refl
    more_true false y h = absurd (cc)

    until_more : (n m p : ℕ) → U n p ≡ true → U (n + m) p ≡ true
    until_more n m p h = until_cut n m p ∙ more_true (U n p) (stays n p && U m (walk n p)) h

    walk_next : (k p : ℕ) → k + p < size w → walk k p ≡ k + p
    unfolding walk
    walk_next zero p l = omega arith
    walk_next (suc k) p l =
        let e : after w p ≡ suc p = after_next p (omega arith) in
        let r : walk k (suc p) ≡ k + suc p = walk_next k (suc p) (omega arith) in
        ap (walk k) e ∙ r ∙ sums k p
      where
        sums : (k p : ℕ) → k + suc p ≡ suc k + p
        sums k p = omega arith

    walk_round : (k p : ℕ) → suc k + p ≡ size w → walk (suc k) p ≡ length w.stem
    unfolding walk
    walk_round zero p e = after_last p (omega arith)
    walk_round (suc k) p e =
        let a : after w p ≡ suc p = after_next p (omega arith) in
        ap (walk (suc k)) a ∙ walk_round k (suc p) (omega arith)

    stays_left : (n m p : ℕ) → stays (n + m) p ≡ true → stays n p ≡ true
    unfolding stays walk
    stays_left zero m p h = refl
    stays_left (suc n) m p h =
        let parts = and_parts (f p) (stays (n + m) (after w p)) (ap (λ k. stays k p) (sym (one_plus n m)) ∙ h) in
        and_from (f p) (stays n (after w p)) parts.0 (stays_left n m (after w p) parts.1)

    cut_cases : (a b c : Bool) → (a || (b && c)) ≡ true → (a ≡ true) ⊎ (c ≡ true)
    cut_cases true b c h = inl refl
    cut_cases false true c h = inr h
    cut_cases false false c h = absurd (cc)

    cut_right : (a b c : Bool) → b ≡ true → c ≡ true → (a || (b && c)) ≡ true
    cut_right true b c h k = refl
    cut_right false true c h k = k
    cut_right false false c h k = absurd (cc)

    same_true : (x y : Bool) → (x ≡ true → y ≡ true) → (y ≡ true → x ≡ true) → x ≡ y
    same_true true y h k = sym (h refl)
    same_true false true h k = k refl
    same_true false false h k = refl

    same_rest : (a b x y : Bool) → (a ≡ false → b ≡ true → x ≡ y) → (a || (b && x)) ≡ (a || (b && y))
    same_rest true b x y h = refl
    same_rest false true x y h = h refl refl
    same_rest false false x y h = refl

    module _ (c : ℕ) (round : c + length w.stem ≡ size w) (some : length w.stem < size w) where
      abbrev first : ℕ
      first = length w.stem

      walk_cycle : walk c first ≡ first
      walk_cycle = go c refl
        where
          go : (n : ℕ) → n ≡ c → walk c first ≡ first
          go zero e = absurd (omega (arith, round))
          go (suc n) e = ap (λ k. walk k first) (sym e) ∙ walk_round n first (omega (arith, round))

      -- from the first position of the cycle, one round is enough
      settled : (n m : ℕ) → m ≤ n → U m first ≡ true → U c first ≡ true
      settled zero m l h = go m refl
        where
          go : (k : ℕ) → m ≡ k → U c first ≡ true
          go zero e = let none : U m first ≡ false = ap (λ k. U k first) e in absurd (cc)
          go (suc k) e = absurd (omega arith)
      settled (suc n) m l h = by (settled n) (cases_lt c m)
        where
          by : ((m : ℕ) → m ≤ n → U m first ≡ true → U c first ≡ true) → (c < m) ⊎ (m ≤ c) → U c first ≡ true
          by rest (inr less) = ap (λ k. U k first) (omega arith) ∙ until_more m (c - m) first h
          by rest (inl more) =
              let cut : (U c first || (stays c first && U (m - c) (walk c first))) ≡ true = sym (until_cut c (m - c) first) ∙ ap (λ k. U k first) (omega arith) ∙ h in
              which (cut_cases (U c first) (stays c first) (U (m - c) (walk c first)) cut)
            where
              which : (U c first ≡ true) ⊎ (U (m - c) (walk c first) ≡ true) → U c first ≡ true
              which (inl e) = e
              which (inr e) = rest (m - c) (omega (arith, round)) (ap (U (m - c)) (sym walk_cycle) ∙ e)

      module _ (p : ℕ) (within : p < size w) where
        k : ℕ
        k = size w - p

        ends : walk (size w - p) p ≡ first
        ends = go (size w - p) refl
          where
            go : (n : ℕ) → size w - p ≡ n → walk (size w - p) p ≡ first
            go zero e = absurd (omega arith)
            go (suc n) e = ap (λ k. walk k p) e ∙ walk_round n p (omega arith)

        -- where the walk to the end tells nothing, p steps from there tell as much as a round
        same_from : U (size w - p) p ≡ false → stays (size w - p) p ≡ true → U c first ≡ U p first
        same_from none all = same_true (U c first) (U p first) forward (settled p p (omega arith))
          where
            forward : U c first ≡ true → U p first ≡ true
            forward h = by (cases_lt p first)
              where
                by : (p < first) ⊎ (first ≤ p) → U p first ≡ true
                by (inl before) =
                    let k_is : size w - p ≡ (first - p) + c = omega (arith, round) in
                    let there : walk (first - p) p ≡ first = walk_next (first - p) p (omega arith) ∙ omega arith in
                    let left : stays (first - p) p ≡ true = stays_left (first - p) c p (ap (λ n. stays n p) (sym k_is) ∙ all) in
                    let full : U (size w - p) p ≡ true =
                    ap (λ n. U n p) k_is ∙ until_cut (first - p) c p ∙ cut_right (U (first - p) p) (stays (first - p) p) _ left (ap (U c) there ∙ h) in
                    absurd (cc)
                by (inr behind) =
                    let c_is : c ≡ (p - first) + (size w - p) = omega (arith, round) in
                    let there : walk (p - first) first ≡ p = walk_next (p - first) first (omega arith) ∙ omega arith in
                    let cut : (U (p - first) first || (stays (p - first) first && U (size w - p) (walk (p - first) first))) ≡ true =
                    sym (until_cut (p - first) (size w - p) first) ∙ ap (λ n. U n first) (sym c_is) ∙ h in
                    which (cut_cases (U (p - first) first) (stays (p - first) first) _ cut)
                  where
                    which : (U (p - first) first ≡ true) ⊎ (U (size w - p) (walk (p - first) first) ≡ true) → U p first ≡ true
                    which (inl e) = ap (λ n. U n first) (omega arith) ∙ until_more (p - first) first first e
                    which (inr e) =
                        let there : walk (p - first) first ≡ p = walk_next (p - first) first (omega arith) ∙ omega arith in
                        let e2 : U (size w - p) p ≡ true = ap (U (size w - p)) (sym there) ∙ e in
                        absurd (cc)

        pub until_enough : U ((size w - p) + c) p ≡ U (size w) p
        until_enough =
            until_cut (size w - p) c p
            ∙ same_rest (U (size w - p) p) (stays (size w - p) p) _ _ (λ none all. ap (U c) ends ∙ same_from none all ∙ ap (U p) (sym ends))
            ∙ sym (until_cut (size w - p) p p) ∙ ap (λ n. U n p) (omega arith)

  pub release_enough : (f g : ℕ → Bool) (c : ℕ) → c + length w.stem ≡ size w → length w.stem < size w → (p : ℕ) → p < size w
      → release_within w f g ((size w - p) + c) p ≡ release_within w f g (size w) p
  release_enough f g c round some p within =
      flip ((size w - p) + c) ∙ ap not (until_enough (λ i. not (f i)) (λ i. not (g i)) c round some p within) ∙ sym (flip (size w))
    where
      flip : (n : ℕ) → release_within w f g n p ≡ not (until_within w (λ i. not (f i)) (λ i. not (g i)) n p)
      flip n = not_not (release_within w f g n p) ∙ ap not (sym (no_release w f g n p))

  -- only the positions matter
  pub until_near : (f g k l : ℕ → Bool) → length w.stem < size w → ((i : ℕ) → i < size w → f i ≡ k i) → ((i : ℕ) → i < size w → g i ≡ l i)
      → (n p : ℕ) → p < size w → until_within w f g n p ≡ until_within w k l n p
  until_near f g k l some a b zero p within = refl
  until_near f g k l some a b (suc n) p within =
      both_or (g p) _ (l p) _ (b p within) (both_and (f p) _ (k p) _ (a p within) (until_near f g k l some a b n (after w p) (after_below p some within)))

  pub release_near : (f g k l : ℕ → Bool) → length w.stem < size w → ((i : ℕ) → i < size w → f i ≡ k i) → ((i : ℕ) → i < size w → g i ≡ l i)
      → (n p : ℕ) → p < size w → release_within w f g n p ≡ release_within w k l n p
  release_near f g k l some a b zero p within = refl
  release_near f g k l some a b (suc n) p within =
      both_and (g p) _ (l p) _ (b p within) (both_or (f p) _ (k p) _ (a p within) (release_near f g k l some a b n (after w p) (after_below p some within)))
