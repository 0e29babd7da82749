-- The normal form of a formula has no further signals.
use Rattle.std.proofs.Common.{◌≡◌, ℕ, Bool, true, false, ◌&&◌, if◌then◌else◌, List, [], ◌∷◌, map, fold, refl, ap, sym, ◌∙◌, subst}
use Rattle.std.proofs.lemmas.Bool.{and_parts}
use Rattle.ltl_form.specs.declared.formulas.Ltl.{Ltl}
use Rattle.ltl_form.specs.declared.formulas.Ltl.TheOpen.{Ltl-F}
use Rattle.ltl_form.specs.declared.formulas.Ltl.TheViews.{roll-Ltl}
use Rattle.ltl_form.specs.declared.formulas.Ltl.TheFolds.{fold-roll-Ltl, ind-Ltl, map-Ltl}
use Rattle.ltl_form.specs.Tree.{Tree, is_truth, is_falsity, conjunction, disjunction, next_of, until_of, release_of, Sides, true_sides, false_sides, not_sides, and_sides, or_sides, equiv_sides, until_sides, release_sides, sides_step, sides, tree_below, normal_tree}
use Rattle.ltl_form.specs.declared.forms.Form.{Form}
use Rattle.ltl_form.specs.declared.forms.Pair.{Pair}
use Rattle.ltl_form.specs.Form.{tree_at, sides_at}
use Rattle.ltl_form.specs.Formula.{all_true, signals_below, signals_below_step}

module _ (n : ℕ) where
  abbrev Low : Tree → Type 0
  Low t = tree_below n t ≡ true

  record SidesLow (s : Sides) : Type 0 where
    positive : Low s.positive
    negative : Low s.negative

  both_true : (x y : Bool) → x ≡ true → y ≡ true → (x && y) ≡ true
  both_true x y h k = rw (h, k) refl

  either_low : (b : Bool) (s t : Tree) → Low s → Low t → Low (if b then s else t)
  either_low true s t h k = h
  either_low false s t h k = k

  conjunction_low : (f g : Tree) → Low f → Low g → Low (conjunction f g)
  conjunction_low f g h k =
      either_low (is_truth f) _ _ k (either_low (is_truth g) _ _ h (either_low (is_falsity f) _ _ h
      (either_low (is_falsity g) _ _ k (both_true (tree_below n f) (tree_below n g) h k))))

  disjunction_low : (f g : Tree) → Low f → Low g → Low (disjunction f g)
  disjunction_low f g h k =
      either_low (is_truth f) _ _ h (either_low (is_truth g) _ _ k (either_low (is_falsity f) _ _ k
      (either_low (is_falsity g) _ _ h (both_true (tree_below n f) (tree_below n g) h k))))

  next_low : (f : Tree) → Low f → Low (next_of f)
  next_low f h = either_low (is_truth f) _ _ h (either_low (is_falsity f) _ _ h h)

  until_low : (f g : Tree) → Low f → Low g → Low (until_of f g)
  until_low f g h k =
      either_low (is_truth g) _ _ k (either_low (is_falsity g) _ _ k (either_low (is_falsity f) _ _ k
      (both_true (tree_below n f) (tree_below n g) h k)))

  release_low : (f g : Tree) → Low f → Low g → Low (release_of f g)
  release_low f g h k =
      either_low (is_truth g) _ _ k (either_low (is_falsity g) _ _ k (either_low (is_truth f) _ _ k
      (both_true (tree_below n f) (tree_below n g) h k)))

  not_sides_low : (s : Sides) → SidesLow s → SidesLow (not_sides s)
  not_sides_low s h = record { positive = h.negative; negative = h.positive }

  and_sides_low : (s t : Sides) → SidesLow s → SidesLow t → SidesLow (and_sides s t)
  and_sides_low s t h k = record {
    positive = conjunction_low s.positive t.positive h.positive k.positive;
    negative = disjunction_low s.negative t.negative h.negative k.negative;
  }

  or_sides_low : (s t : Sides) → SidesLow s → SidesLow t → SidesLow (or_sides s t)
  or_sides_low s t h k = record {
    positive = disjunction_low s.positive t.positive h.positive k.positive;
    negative = conjunction_low s.negative t.negative h.negative k.negative;
  }

  equiv_sides_low : (s t : Sides) → SidesLow s → SidesLow t → SidesLow (equiv_sides s t)
  equiv_sides_low s t h k = record {
    positive = disjunction_low (conjunction s.positive t.positive) (conjunction s.negative t.negative) (conjunction_low s.positive t.positive h.positive k.positive) (conjunction_low s.negative t.negative h.negative k.negative);
    negative = disjunction_low (conjunction s.positive t.negative) (conjunction s.negative t.positive) (conjunction_low s.positive t.negative h.positive k.negative) (conjunction_low s.negative t.positive h.negative k.positive);
  }

  until_sides_low : (s t : Sides) → SidesLow s → SidesLow t → SidesLow (until_sides s t)
  until_sides_low s t h k = record {
    positive = until_low s.positive t.positive h.positive k.positive;
    negative = release_low s.negative t.negative h.negative k.negative;
  }

  release_sides_low : (s t : Sides) → SidesLow s → SidesLow t → SidesLow (release_sides s t)
  release_sides_low s t h k = record {
    positive = release_low s.positive t.positive h.positive k.positive;
    negative = until_low s.negative t.negative h.negative k.negative;
  }

  abbrev Claim : Ltl → Type 0
  Claim f = signals_below n f ≡ true → SidesLow (sides f)

  fold_low : (op : Sides → Sides → Sides) → ((s t : Sides) → SidesLow s → SidesLow t → SidesLow (op s t))
      → (start : Sides) → SidesLow start → (fs : List ((f : Ltl) × Claim f))
      → all_true (map (signals_below n) (map (λ e. e.0) fs)) ≡ true → SidesLow (fold op start (map sides (map (λ e. e.0) fs)))
  fold_low op keeps start h [] all = h
  fold_low op keeps start h (f ∷ fs) all =
      let p = and_parts (signals_below n f.0) (all_true (map (signals_below n) (map (λ e. e.0) fs))) all in
      fold_low op keeps (op start (sides f.0)) (keeps start (sides f.0) h (f.1 p.0)) fs p.1

  two : (f g : (f : Ltl) × Claim f) → (signals_below n f.0 && signals_below n g.0) ≡ true → SidesLow (sides f.0) × SidesLow (sides g.0)
  two f g h = let p = and_parts (signals_below n f.0) (signals_below n g.0) h in (f.1 p.0, g.1 p.1)

  true_low : SidesLow true_sides
  true_low = record { positive = refl; negative = refl }

  false_low : SidesLow false_sides
  false_low = record { positive = refl; negative = refl }

  step : (y : Ltl-F ((f : Ltl) × Claim f)) → signals_below_step n (map-Ltl Ltl Bool (signals_below n) (map-Ltl ((f : Ltl) × Claim f) Ltl (λ e. e.0) y)) ≡ true
      → SidesLow (sides_step (map-Ltl Ltl Sides sides (map-Ltl ((f : Ltl) × Claim f) Ltl (λ e. e.0) y)))
  step Ltl-F.True h = true_low
  step Ltl-F.False h = false_low
  step (Ltl-F.Signal x) h = record { positive = h; negative = h }
  step (Ltl-F.Not f) h = not_sides_low (sides f.0) (f.1 h)
  step (Ltl-F.All fs) h = fold_low and_sides and_sides_low true_sides true_low fs h
  step (Ltl-F.Any fs) h = fold_low or_sides or_sides_low false_sides false_low fs h
  step (Ltl-F.Implies f g) h = let p = two f g h in or_sides_low _ _ (not_sides_low (sides f.0) p.0) p.1
  step (Ltl-F.Equiv f g) h = let p = two f g h in equiv_sides_low _ _ p.0 p.1
  step (Ltl-F.Next f) h = let p = f.1 h in record { positive = next_low (sides f.0).positive p.positive; negative = next_low (sides f.0).negative p.negative }
  step (Ltl-F.Finally f) h = until_sides_low true_sides (sides f.0) true_low (f.1 h)
  step (Ltl-F.Globally f) h = release_sides_low false_sides (sides f.0) false_low (f.1 h)
  step (Ltl-F.Until f g) h = let p = two f g h in until_sides_low _ _ p.0 p.1
  step (Ltl-F.Release f g) h = let p = two f g h in release_sides_low _ _ p.0 p.1
  step (Ltl-F.Weak f g) h = let p = two f g h in release_sides_low _ _ p.1 (or_sides_low _ _ p.0 p.1)

  sides_low : (f : Ltl) → Claim f
  sides_low = ind-Ltl Claim (λ x y is.
      subst (λ z. Claim (roll-Ltl z)) is (λ h.
      let d = map-Ltl ((f : Ltl) × Claim f) Ltl (λ e. e.0) y in
      subst SidesLow (sym (fold-roll-Ltl Sides sides_step d)) (step y (sym (fold-roll-Ltl Bool (signals_below_step n) d) ∙ h))))

  pub normal_below : (f : Ltl) (positive : Bool) → signals_below n f ≡ true → tree_below n (normal_tree f positive) ≡ true
  normal_below f true h = (sides_low f h).positive
  normal_below f false h = (sides_low f h).negative

-- the place of the form that was asked for
pub chosen_is : (forms : List Form) (p : Pair) (f : Ltl) (positive : Bool) → sides_at forms p ≡ sides f
    → tree_at forms (if positive then p.positive else p.negative) ≡ normal_tree f positive
chosen_is forms p f true is = ap (λ s. s.positive) is
chosen_is forms p f false is = ap (λ s. s.negative) is
