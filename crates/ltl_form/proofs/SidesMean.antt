-- The normal form of a formula holds where the formula does, and that of its negation where it doesn't.
use Rattle.std.proofs.Common.{◌≡◌, ℕ, zero, suc, ◌<◌, Bool, true, false, not, ◌&&◌, ◌||◌, if◌then◌else◌, List, [], ◌∷◌, map, fold, refl, ap, sym, ◌∙◌, subst, arith}
use Rattle.word_core.specs.Lasso.{LassoData, size}
use Rattle.ltl_form.specs.declared.formulas.Ltl.{Ltl}
use Rattle.ltl_form.specs.declared.formulas.Ltl.TheOpen.{Ltl-F}
use Rattle.ltl_form.specs.declared.formulas.Ltl.TheViews.{roll-Ltl}
use Rattle.ltl_form.specs.declared.formulas.Ltl.TheFolds.{fold-roll-Ltl, ind-Ltl, map-Ltl}
use Rattle.ltl_form.specs.Tree.{Tree, truth, falsity, literal, conjoined, disjoined, following, until, release, is_truth, is_falsity, conjunction, disjunction, next_of, until_of, release_of, Sides, true_sides, false_sides, signal_sides, not_sides, and_sides, or_sides, equiv_sides, next_sides, until_sides, release_sides, sides_step, sides, normal_tree}
use Rattle.ltl_form.specs.Meaning.{after, signal_at, until_within, release_within, until_at, release_at, all_at, any_at, holds_step, holds_at, tree_holds}
use Rattle.ltl_form.proofs.Truths.{true_and, and_true, false_and, and_false, true_or, or_true, false_or, or_false, both_and, both_or, both_not, not_and, not_or, not_not, and_nothing, not_same, weak_step}

truth_is : (t : Tree) → is_truth t ≡ true → t ≡ truth
truth_is truth h = refl
truth_is falsity h = absurd (cc)
truth_is (literal x b) h = absurd (cc)
truth_is (conjoined f g) h = absurd (cc)
truth_is (disjoined f g) h = absurd (cc)
truth_is (following f) h = absurd (cc)
truth_is (until f g) h = absurd (cc)
truth_is (release f g) h = absurd (cc)

falsity_is : (t : Tree) → is_falsity t ≡ true → t ≡ falsity
falsity_is truth h = absurd (cc)
falsity_is falsity h = refl
falsity_is (literal x b) h = absurd (cc)
falsity_is (conjoined f g) h = absurd (cc)
falsity_is (disjoined f g) h = absurd (cc)
falsity_is (following f) h = absurd (cc)
falsity_is (until f g) h = absurd (cc)
falsity_is (release f g) h = absurd (cc)

module _ (w : LassoData) where
  abbrev Where : Type 0
  Where = ℕ → Bool

  -- a walk that meets g everywhere, nowhere, or over an f that holds nowhere or everywhere
  until_everywhere : (f g : Where) (n p : ℕ) → 0 < n → ((i : ℕ) → g i ≡ true) → until_within w f g n p ≡ true
  until_everywhere f g zero p some h = absurd (omega arith)
  until_everywhere f g (suc n) p some h = sym (true_or (g p) (f p && until_within w f g n (after w p)) (h p)) ∙ h p

  until_nowhere : (f g : Where) (n p : ℕ) → ((i : ℕ) → g i ≡ false) → until_within w f g n p ≡ false
  until_nowhere f g zero p h = refl
  until_nowhere f g (suc n) p h =
      let rest = until_nowhere f g n (after w p) h in
      sym (false_or (g p) (f p && until_within w f g n (after w p)) (h p)) ∙ sym (and_false (f p) _ rest) ∙ rest

  until_at_once : (f g : Where) (n p : ℕ) → 0 < n → ((i : ℕ) → f i ≡ false) → until_within w f g n p ≡ g p
  until_at_once f g zero p some h = absurd (omega arith)
  until_at_once f g (suc n) p some h = sym (or_false (g p) (f p && until_within w f g n (after w p)) (sym (false_and (f p) _ (h p)) ∙ h p))

  release_everywhere : (f g : Where) (n p : ℕ) → ((i : ℕ) → g i ≡ true) → release_within w f g n p ≡ true
  release_everywhere f g zero p h = refl
  release_everywhere f g (suc n) p h =
      let rest = release_everywhere f g n (after w p) h in
      sym (true_and (g p) (f p || release_within w f g n (after w p)) (h p)) ∙ sym (or_true (f p) _ rest) ∙ rest

  release_nowhere : (f g : Where) (n p : ℕ) → 0 < n → ((i : ℕ) → g i ≡ false) → release_within w f g n p ≡ false
  release_nowhere f g zero p some h = absurd (omega arith)
  release_nowhere f g (suc n) p some h = sym (false_and (g p) (f p || release_within w f g n (after w p)) (h p)) ∙ h p

  release_at_once : (f g : Where) (n p : ℕ) → 0 < n → ((i : ℕ) → f i ≡ true) → release_within w f g n p ≡ g p
  release_at_once f g zero p some h = absurd (omega arith)
  release_at_once f g (suc n) p some h = sym (and_true (g p) (f p || release_within w f g n (after w p)) (sym (true_or (f p) _ (h p)) ∙ h p))

  until_same : (f g k l : Where) → ((i : ℕ) → f i ≡ k i) → ((i : ℕ) → g i ≡ l i) → (n p : ℕ) → until_within w f g n p ≡ until_within w k l n p
  until_same f g k l a b zero p = refl
  until_same f g k l a b (suc n) p = both_or (g p) _ (l p) _ (b p) (both_and (f p) _ (k p) _ (a p) (until_same f g k l a b n (after w p)))

  release_same : (f g k l : Where) → ((i : ℕ) → f i ≡ k i) → ((i : ℕ) → g i ≡ l i) → (n p : ℕ) → release_within w f g n p ≡ release_within w k l n p
  release_same f g k l a b zero p = refl
  release_same f g k l a b (suc n) p = both_and (g p) _ (l p) _ (b p) (both_or (f p) _ (k p) _ (a p) (release_same f g k l a b n (after w p)))

  -- an until that doesn't hold is a release, and the other way round
  no_until : (f g : Where) (n p : ℕ) → release_within w (λ i. not (f i)) (λ i. not (g i)) n p ≡ not (until_within w f g n p)
  no_until f g zero p = refl
  no_until f g (suc n) p = not_or (g p) (f p) _ _ (no_until f g n (after w p))

  pub no_release : (f g : Where) (n p : ℕ) → until_within w (λ i. not (f i)) (λ i. not (g i)) n p ≡ not (release_within w f g n p)
  no_release f g zero p = refl
  no_release f g (suc n) p = not_and (g p) (f p) _ _ (no_release f g n (after w p))

  -- until g or for ever: g releases (f or g)
  weak : (f g : Where) (n p : ℕ) → release_within w g (λ i. f i || g i) n p ≡ (until_within w f g n p || release_within w (λ i. false) f n p)
  weak f g zero p = refl
  weak f g (suc n) p = weak_step (f p) (g p) _ _ _ (weak f g n (after w p))

  module _ (some : 0 < size w) where
    true_holds : (t : Tree) → is_truth t ≡ true → (p : ℕ) → tree_holds w t p ≡ true
    true_holds t h p = ap (λ t. tree_holds w t p) (truth_is t h)

    false_holds : (t : Tree) → is_falsity t ≡ true → (p : ℕ) → tree_holds w t p ≡ false
    false_holds t h p = ap (λ t. tree_holds w t p) (falsity_is t h)

    -- folding constants doesn't change where a formula holds
    conjunction_holds : (f g : Tree) (p : ℕ) → tree_holds w (conjunction f g) p ≡ (tree_holds w f p && tree_holds w g p)
    conjunction_holds f g p = go (is_truth f) refl (is_truth g) refl (is_falsity f) refl (is_falsity g) refl
      where
        go : (a : Bool) → is_truth f ≡ a → (b : Bool) → is_truth g ≡ b → (c : Bool) → is_falsity f ≡ c → (d : Bool) → is_falsity g ≡ d
            → tree_holds w (if a then g else (if b then f else (if c then f else (if d then g else conjoined f g)))) p ≡ (tree_holds w f p && tree_holds w g p)
        go true i b j c k d l = true_and (tree_holds w f p) (tree_holds w g p) (true_holds f i p)
        go false i true j c k d l = and_true (tree_holds w f p) (tree_holds w g p) (true_holds g j p)
        go false i false j true k d l = false_and (tree_holds w f p) (tree_holds w g p) (false_holds f k p)
        go false i false j false k true l = and_false (tree_holds w f p) (tree_holds w g p) (false_holds g l p)
        go false i false j false k false l = refl

    disjunction_holds : (f g : Tree) (p : ℕ) → tree_holds w (disjunction f g) p ≡ (tree_holds w f p || tree_holds w g p)
    disjunction_holds f g p = go (is_truth f) refl (is_truth g) refl (is_falsity f) refl (is_falsity g) refl
      where
        go : (a : Bool) → is_truth f ≡ a → (b : Bool) → is_truth g ≡ b → (c : Bool) → is_falsity f ≡ c → (d : Bool) → is_falsity g ≡ d
            → tree_holds w (if a then f else (if b then g else (if c then g else (if d then f else disjoined f g)))) p ≡ (tree_holds w f p || tree_holds w g p)
        go true i b j c k d l = true_or (tree_holds w f p) (tree_holds w g p) (true_holds f i p)
        go false i true j c k d l = or_true (tree_holds w f p) (tree_holds w g p) (true_holds g j p)
        go false i false j true k d l = false_or (tree_holds w f p) (tree_holds w g p) (false_holds f k p)
        go false i false j false k true l = or_false (tree_holds w f p) (tree_holds w g p) (false_holds g l p)
        go false i false j false k false l = refl

    next_holds : (f : Tree) (p : ℕ) → tree_holds w (next_of f) p ≡ tree_holds w f (after w p)
    next_holds f p = go (is_truth f) refl (is_falsity f) refl
      where
        go : (a : Bool) → is_truth f ≡ a → (b : Bool) → is_falsity f ≡ b → tree_holds w (if a then f else (if b then f else following f)) p ≡ tree_holds w f (after w p)
        go true i b j = true_holds f i p ∙ sym (true_holds f i (after w p))
        go false i true j = false_holds f j p ∙ sym (false_holds f j (after w p))
        go false i false j = refl

    until_holds : (f g : Tree) (p : ℕ) → tree_holds w (until_of f g) p ≡ until_at w (tree_holds w f) (tree_holds w g) p
    until_holds f g p = go (is_truth g) refl (is_falsity g) refl (is_falsity f) refl
      where
        go : (a : Bool) → is_truth g ≡ a → (b : Bool) → is_falsity g ≡ b → (c : Bool) → is_falsity f ≡ c
            → tree_holds w (if a then g else (if b then g else (if c then g else until f g))) p ≡ until_at w (tree_holds w f) (tree_holds w g) p
        go true i b j c k = true_holds g i p ∙ sym (until_everywhere (tree_holds w f) (tree_holds w g) (size w) p some (true_holds g i))
        go false i true j c k = false_holds g j p ∙ sym (until_nowhere (tree_holds w f) (tree_holds w g) (size w) p (false_holds g j))
        go false i false j true k = sym (until_at_once (tree_holds w f) (tree_holds w g) (size w) p some (false_holds f k))
        go false i false j false k = refl

    release_holds : (f g : Tree) (p : ℕ) → tree_holds w (release_of f g) p ≡ release_at w (tree_holds w f) (tree_holds w g) p
    release_holds f g p = go (is_truth g) refl (is_falsity g) refl (is_truth f) refl
      where
        go : (a : Bool) → is_truth g ≡ a → (b : Bool) → is_falsity g ≡ b → (c : Bool) → is_truth f ≡ c
            → tree_holds w (if a then g else (if b then g else (if c then g else release f g))) p ≡ release_at w (tree_holds w f) (tree_holds w g) p
        go true i b j c k = true_holds g i p ∙ sym (release_everywhere (tree_holds w f) (tree_holds w g) (size w) p (true_holds g i))
        go false i true j c k = false_holds g j p ∙ sym (release_nowhere (tree_holds w f) (tree_holds w g) (size w) p some (false_holds g j))
        go false i false j true k = sym (release_at_once (tree_holds w f) (tree_holds w g) (size w) p some (true_holds f k))
        go false i false j false k = refl

    -- a formula and its negation hold where m says so and where it doesn't
    record Means (s : Sides) (m : Where) : Type 0 where
      positive : (p : ℕ) → tree_holds w s.positive p ≡ m p
      negative : (p : ℕ) → tree_holds w s.negative p ≡ not (m p)

    means_same : (s : Sides) (m n : Where) → ((p : ℕ) → m p ≡ n p) → Means s m → Means s n
    means_same s m n same h = record { positive = λ p. h.positive p ∙ same p; negative = λ p. h.negative p ∙ ap not (same p) }

    true_means : Means true_sides (λ p. true)
    true_means = record { positive = λ p. refl; negative = λ p. refl }

    false_means : Means false_sides (λ p. false)
    false_means = record { positive = λ p. refl; negative = λ p. refl }

    signal_means : (x : ℕ) → Means (signal_sides x) (signal_at w x)
    signal_means x = record { positive = λ p. refl; negative = λ p. refl }

    not_means : (s : Sides) (m : Where) → Means s m → Means (not_sides s) (λ p. not (m p))
    not_means s m h = record { positive = h.negative; negative = λ p. h.positive p ∙ not_not (m p) }

    and_means : (s t : Sides) (m n : Where) → Means s m → Means t n → Means (and_sides s t) (λ p. m p && n p)
    and_means s t m n h k = record {
      positive = λ p. conjunction_holds s.positive t.positive p ∙ both_and _ _ (m p) (n p) (h.positive p) (k.positive p);
      negative = λ p. disjunction_holds s.negative t.negative p ∙ both_or _ _ (not (m p)) (not (n p)) (h.negative p) (k.negative p) ∙ both_not (m p) (n p);
    }

    or_means : (s t : Sides) (m n : Where) → Means s m → Means t n → Means (or_sides s t) (λ p. m p || n p)
    or_means s t m n h k = record {
      positive = λ p. disjunction_holds s.positive t.positive p ∙ both_or _ _ (m p) (n p) (h.positive p) (k.positive p);
      negative = λ p. conjunction_holds s.negative t.negative p ∙ both_and _ _ (not (m p)) (not (n p)) (h.negative p) (k.negative p) ∙ and_nothing (m p) (n p);
    }

    -- (pos f and pos g) or (neg f and neg g)
    equal_holds : (s t : Sides) (m n : Where) → Means s m → Means t n → (p : ℕ)
        → tree_holds w (disjunction (conjunction s.positive t.positive) (conjunction s.negative t.negative)) p ≡ ((m p && n p) || (not (m p) && not (n p)))
    equal_holds s t m n h k p =
        disjunction_holds (conjunction s.positive t.positive) (conjunction s.negative t.negative) p
        ∙ both_or _ _ (m p && n p) (not (m p) && not (n p))
        (conjunction_holds s.positive t.positive p ∙ both_and _ _ (m p) (n p) (h.positive p) (k.positive p))
        (conjunction_holds s.negative t.negative p ∙ both_and _ _ (not (m p)) (not (n p)) (h.negative p) (k.negative p))

    equiv_means : (s t : Sides) (m n : Where) → Means s m → Means t n → Means (equiv_sides s t) (λ p. (m p && n p) || (not (m p) && not (n p)))
    equiv_means s t m n h k = record {
      positive = equal_holds s t m n h k;
      negative = λ p. equal_holds s (not_sides t) m (λ p. not (n p)) h (not_means t n k) p ∙ not_same (m p) (n p);
    }

    next_means : (s : Sides) (m : Where) → Means s m → Means (next_sides s) (λ p. m (after w p))
    next_means s m h = record {
      positive = λ p. next_holds s.positive p ∙ h.positive (after w p);
      negative = λ p. next_holds s.negative p ∙ h.negative (after w p);
    }

    until_means : (s t : Sides) (m n : Where) → Means s m → Means t n → Means (until_sides s t) (until_at w m n)
    until_means s t m n h k = record {
      positive = λ p. until_holds s.positive t.positive p ∙ until_same _ _ m n h.positive k.positive (size w) p;
      negative = λ p. release_holds s.negative t.negative p ∙ release_same _ _ (λ i. not (m i)) (λ i. not (n i)) h.negative k.negative (size w) p ∙ no_until m n (size w) p;
    }

    release_means : (s t : Sides) (m n : Where) → Means s m → Means t n → Means (release_sides s t) (release_at w m n)
    release_means s t m n h k = record {
      positive = λ p. release_holds s.positive t.positive p ∙ release_same _ _ m n h.positive k.positive (size w) p;
      negative = λ p. until_holds s.negative t.negative p ∙ until_same _ _ (λ i. not (m i)) (λ i. not (n i)) h.negative k.negative (size w) p ∙ no_release m n (size w) p;
    }

    abbrev Claim : Ltl → Type 0
    Claim f = Means (sides f) (holds_at w f)

    abbrev Known : Type 0
    Known = (f : Ltl) × Claim f

    all_means : (start : Sides) (m : Where) → Means start m → (fs : List Known)
        → Means (fold and_sides start (map sides (map (λ e. e.0) fs))) (λ p. m p && all_at (map (holds_at w) (map (λ e. e.0) fs)) p)
    all_means start m h [] = means_same start m _ (λ p. and_true (m p) true refl) h
    all_means start m h (f ∷ fs) =
        means_same _ (λ p. (m p && holds_at w f.0 p) && all_at (map (holds_at w) (map (λ e. e.0) fs)) p) _
        (λ p. and_grouped (m p) (holds_at w f.0 p) _)
        (all_means (and_sides start (sides f.0)) (λ p. m p && holds_at w f.0 p) (and_means start (sides f.0) m (holds_at w f.0) h f.1) fs)
      where
        and_grouped : (x y z : Bool) → ((x && y) && z) ≡ (x && (y && z))
        and_grouped true y z = refl
        and_grouped false y z = refl

    any_means : (start : Sides) (m : Where) → Means start m → (fs : List Known)
        → Means (fold or_sides start (map sides (map (λ e. e.0) fs))) (λ p. m p || any_at (map (holds_at w) (map (λ e. e.0) fs)) p)
    any_means start m h [] = means_same start m _ (λ p. or_false (m p) false refl) h
    any_means start m h (f ∷ fs) =
        means_same _ (λ p. (m p || holds_at w f.0 p) || any_at (map (holds_at w) (map (λ e. e.0) fs)) p) _
        (λ p. or_grouped (m p) (holds_at w f.0 p) _)
        (any_means (or_sides start (sides f.0)) (λ p. m p || holds_at w f.0 p) (or_means start (sides f.0) m (holds_at w f.0) h f.1) fs)
      where
        or_grouped : (x y z : Bool) → ((x || y) || z) ≡ (x || (y || z))
        or_grouped true y z = refl
        or_grouped false y z = refl

    step : (y : Ltl-F Known) → Means (sides_step (map-Ltl Ltl Sides sides (map-Ltl Known Ltl (λ e. e.0) y)))
        (holds_step w (map-Ltl Ltl (ℕ → Bool) (holds_at w) (map-Ltl Known Ltl (λ e. e.0) y)))
    step Ltl-F.True = true_means
    step Ltl-F.False = false_means
    step (Ltl-F.Signal x) = signal_means x
    step (Ltl-F.Not f) = not_means (sides f.0) (holds_at w f.0) f.1
    step (Ltl-F.All fs) = all_means true_sides (λ p. true) true_means fs
    step (Ltl-F.Any fs) = any_means false_sides (λ p. false) false_means fs
    step (Ltl-F.Implies f g) = or_means (not_sides (sides f.0)) (sides g.0) _ (holds_at w g.0) (not_means (sides f.0) (holds_at w f.0) f.1) g.1
    step (Ltl-F.Equiv f g) = equiv_means (sides f.0) (sides g.0) (holds_at w f.0) (holds_at w g.0) f.1 g.1
    step (Ltl-F.Next f) = next_means (sides f.0) (holds_at w f.0) f.1
    step (Ltl-F.Finally f) = until_means true_sides (sides f.0) (λ i. true) (holds_at w f.0) true_means f.1
    step (Ltl-F.Globally f) = release_means false_sides (sides f.0) (λ i. false) (holds_at w f.0) false_means f.1
    step (Ltl-F.Until f g) = until_means (sides f.0) (sides g.0) (holds_at w f.0) (holds_at w g.0) f.1 g.1
    step (Ltl-F.Release f g) = release_means (sides f.0) (sides g.0) (holds_at w f.0) (holds_at w g.0) f.1 g.1
    step (Ltl-F.Weak f g) =
        means_same _ (release_at w (holds_at w g.0) (λ i. holds_at w f.0 i || holds_at w g.0 i)) _ (weak (holds_at w f.0) (holds_at w g.0) (size w))
        (release_means (sides g.0) (or_sides (sides f.0) (sides g.0)) (holds_at w g.0) _ g.1 (or_means (sides f.0) (sides g.0) (holds_at w f.0) (holds_at w g.0) f.1 g.1))

    sides_mean : (f : Ltl) → Claim f
    sides_mean = ind-Ltl Claim (λ x y is.
        subst (λ z. Claim (roll-Ltl z)) is (
        let d = map-Ltl Known Ltl (λ e. e.0) y in
        let s = fold-roll-Ltl Sides sides_step d in
        let m = fold-roll-Ltl (ℕ → Bool) (holds_step w) d in
        subst (λ k. Means (sides (roll-Ltl d)) k) (sym m) (subst (λ k. Means k (holds_step w (map-Ltl Ltl (ℕ → Bool) (holds_at w) d))) (sym s) (step y))))

    pub normal_means : (f : Ltl) (positive : Bool) (p : ℕ) → tree_holds w (normal_tree f positive) p ≡ (if positive then holds_at w f p else not (holds_at w f p))
    normal_means f true p = (sides_mean f).positive p
    normal_means f false p = (sides_mean f).negative p
