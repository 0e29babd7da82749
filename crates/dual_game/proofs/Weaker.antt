-- Signals below a number are below each greater one.
use Rattle.std.proofs.Common.{◌≡◌, ℕ, ◌≤◌, Bool, true, ◌&&◌, List, [], ◌∷◌, map, refl, sym, ◌∙◌, subst, arith, nat_lt}
use Rattle.std.proofs.lemmas.Bool.{and_parts}
use Rattle.ltl_form.specs.declared.formulas.Ltl.{Ltl}
use Rattle.ltl_form.specs.declared.formulas.Ltl.TheOpen.{Ltl-F}
use Rattle.ltl_form.specs.declared.formulas.Ltl.TheViews.{roll-Ltl}
use Rattle.ltl_form.specs.declared.formulas.Ltl.TheFolds.{fold-roll-Ltl, ind-Ltl, map-Ltl}
use Rattle.ltl_form.specs.Formula.{all_true, signals_below, signals_below_step}

nat_lt-wider : (x m n : ℕ) → m ≤ n → nat_lt x m ≡ true → nat_lt x n ≡ true
nat_lt-wider x m n le h = grind (arith)

both_true : (x y : Bool) → x ≡ true → y ≡ true → (x && y) ≡ true
both_true x y h k = rw (h, k) refl

module _ (m n : ℕ) (le : m ≤ n) where
  abbrev Claim : Ltl → Type 0
  Claim f = signals_below m f ≡ true → signals_below n f ≡ true

  all_wider : (fs : List ((f : Ltl) × Claim f)) → all_true (map (signals_below m) (map (λ e. e.0) fs)) ≡ true → all_true (map (signals_below n) (map (λ e. e.0) fs)) ≡ true
  all_wider [] h = refl
  all_wider (f ∷ fs) h =
      let p = and_parts (signals_below m f.0) (all_true (map (signals_below m) (map (λ e. e.0) fs))) h in
      both_true _ _ (f.1 p.0) (all_wider fs p.1)

  two : (f g : (f : Ltl) × Claim f) → (signals_below m f.0 && signals_below m g.0) ≡ true → (signals_below n f.0 && signals_below n g.0) ≡ true
  two f g h = let p = and_parts (signals_below m f.0) (signals_below m g.0) h in both_true _ _ (f.1 p.0) (g.1 p.1)

  step : (y : Ltl-F ((f : Ltl) × Claim f)) → signals_below_step m (map-Ltl Ltl Bool (signals_below m) (map-Ltl ((f : Ltl) × Claim f) Ltl (λ e. e.0) y)) ≡ true
      → signals_below_step n (map-Ltl Ltl Bool (signals_below n) (map-Ltl ((f : Ltl) × Claim f) Ltl (λ e. e.0) y)) ≡ true
  step Ltl-F.True h = refl
  step Ltl-F.False h = refl
  step (Ltl-F.Signal x) h = nat_lt-wider x m n le h
  step (Ltl-F.Not f) h = f.1 h
  step (Ltl-F.All fs) h = all_wider fs h
  step (Ltl-F.Any fs) h = all_wider fs h
  step (Ltl-F.Implies f g) h = two f g h
  step (Ltl-F.Equiv f g) h = two f g h
  step (Ltl-F.Next f) h = f.1 h
  step (Ltl-F.Finally f) h = f.1 h
  step (Ltl-F.Globally f) h = f.1 h
  step (Ltl-F.Until f g) h = two f g h
  step (Ltl-F.Release f g) h = two f g h
  step (Ltl-F.Weak f g) h = two f g h

  pub wider : (f : Ltl) → signals_below m f ≡ true → signals_below n f ≡ true
  wider = ind-Ltl Claim (λ x y is.
      subst (λ z. Claim (roll-Ltl z)) is (λ h.
      let d = map-Ltl ((f : Ltl) × Claim f) Ltl (λ e. e.0) y in
      fold-roll-Ltl Bool (signals_below_step n) d ∙ step y (sym (fold-roll-Ltl Bool (signals_below_step m) d) ∙ h)))
