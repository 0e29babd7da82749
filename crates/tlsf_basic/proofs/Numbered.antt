-- The signals of what is read are below the number of names.
use Rattle.std.proofs.Common.{◌≡◌, ℕ, ◌<◌, Bool, true, false, List, [], ◌∷◌, Ok, map, sym, refl, ap, ◌∙◌, subst}
use Rattle.std.specs.Prelude.{All, ◌&&◌}
use Rattle.std.proofs.lemmas.List.Elements.{All-nil, All-cons, All-head, All-tail}
use Rattle.std.proofs.lemmas.Bool.{lt-ltb}
use Rattle.ltl_form.specs.declared.formulas.Ltl.{Ltl, roll-Ltl, map-Ltl, fold-roll-Ltl}
use Rattle.ltl_form.specs.declared.formulas.Ltl.TheOpen.{Ltl-F}
use Rattle.ltl_form.specs.declared.formulas.Ltl.TheVariants as ltl
use Rattle.ltl_form.specs.Formula.{all_true, signals_below, signals_below_step}
use Rattle.tlsf_basic.specs.declared.symbols.Unary.{Unary}
use Rattle.tlsf_basic.specs.declared.symbols.Unary.TheVariants as u
use Rattle.tlsf_basic.specs.declared.symbols.Lone.{Lone}
use Rattle.tlsf_basic.specs.declared.symbols.Lone.TheVariants as o
use Rattle.tlsf_basic.specs.declared.symbols.Symbol.TheVariants as s
use Rattle.tlsf_basic.specs.declared.symbols.Lexeme.{Lexeme}
use Rattle.tlsf_basic.specs.declared.headings.Heading.{Heading}
use Rattle.tlsf_basic.specs.declared.mains.Sections.{Sections}
use Rattle.tlsf_basic.specs.Values.{with_unary, with_lone}
use Rattle.tlsf_basic.specs.Mains.{read_text}
use Rattle.tlsf_basic.specs.Signals.{is_unknown, IsSymbolBelow, IsSignalBelow, IsKnown}
use Rattle.tlsf_basic.specs.Composition.{conjunction, plain, strict, formula_of}
use Rattle.tlsf_basic.proofs.Kept.{Carries, Entries, KeepsText, at_text}

both_true : (a b : Bool) → a ≡ true → b ≡ true → (a && b) ≡ true
both_true a b p q = rw (p, q) refl

module _ (n : ℕ) where
  opened : (layer : Ltl-F Ltl) (f : Ltl) → roll-Ltl layer ≡ f → signals_below n f ≡ signals_below_step n (map-Ltl Ltl Bool (signals_below n) layer)
  opened layer f is = ap (signals_below n) (sym is) ∙ fold-roll-Ltl Bool (signals_below_step n) layer

  -- each signal of a formula is below n
  abbrev pub Below : Ltl → Type 0
  Below f = signals_below n f ≡ true

  unary_below : (op : Unary) (f : Ltl) → Below f → Below (with_unary op f)
  unary_below u.Not f q = opened (Ltl-F.Not f) (ltl.Not f) (ltl.rolls-Not f) ∙ q
  unary_below u.Next f q = opened (Ltl-F.Next f) (ltl.Next f) (ltl.rolls-Next f) ∙ q
  unary_below u.Finally f q = opened (Ltl-F.Finally f) (ltl.Finally f) (ltl.rolls-Finally f) ∙ q
  unary_below u.Globally f q = opened (Ltl-F.Globally f) (ltl.Globally f) (ltl.rolls-Globally f) ∙ q

  lone_below : (op : Lone) (f g : Ltl) → Below f → Below g → Below (with_lone op f g)
  lone_below o.Equiv f g p q = opened (Ltl-F.Equiv f g) (ltl.Equiv f g) (ltl.rolls-Equiv f g) ∙ both_true _ _ p q
  lone_below o.Until f g p q = opened (Ltl-F.Until f g) (ltl.Until f g) (ltl.rolls-Until f g) ∙ both_true _ _ p q
  lone_below o.Release f g p q = opened (Ltl-F.Release f g) (ltl.Release f g) (ltl.rolls-Release f g) ∙ both_true _ _ p q
  lone_below o.Weak f g p q = opened (Ltl-F.Weak f g) (ltl.Weak f g) (ltl.rolls-Weak f g) ∙ both_true _ _ p q

  implies_below : (f g : Ltl) → Below f → Below g → Below (ltl.Implies f g)
  implies_below f g p q = opened (Ltl-F.Implies f g) (ltl.Implies f g) (ltl.rolls-Implies f g) ∙ both_true _ _ p q

  each_below : (fs : List Ltl) → All Below fs → all_true (map (signals_below n) fs) ≡ true
  each_below [] all = refl
  each_below (f ∷ fs) all = both_true _ _ (All-head Below f fs all) (each_below fs (All-tail Below f fs all))

  all_below : (fs : List Ltl) → All Below fs → Below (ltl.All fs)
  all_below fs all = opened (Ltl-F.All fs) (ltl.All fs) (ltl.rolls-All fs) ∙ each_below fs all

  any_below : (fs : List Ltl) → All Below fs → Below (ltl.Any fs)
  any_below fs all = opened (Ltl-F.Any fs) (ltl.Any fs) (ltl.rolls-Any fs) ∙ each_below fs all

  signal_below : (k : ℕ) → k < n → Below (ltl.Signal k)
  signal_below k h = opened (Ltl-F.Signal k) (ltl.Signal k) (ltl.rolls-Signal k) ∙ lt-ltb k n h

  true_below : Below ltl.True
  true_below = opened Ltl-F.True ltl.True ltl.rolls-True

  -- a name of a formula is declared, and its number is below n
  abbrev pub IsSound : Lexeme → Type 0
  IsSound t = IsSignalBelow n t × IsKnown t

  sound : Carries IsSound (λ _. Unit {0}) Below
  sound = record {
    at_place = λ t p. tt;
    at_true = true_below;
    at_false = opened Ltl-F.False ltl.False ltl.rolls-False;
    at_signal = λ t k p is. signal_below k (subst (IsSymbolBelow n) is p.0);
    at_unknown = λ t p is. let e : is_unknown s.Unknown ≡ false = subst (λ y. is_unknown y ≡ false) is p.1 in cc;
    at_unary = unary_below;
    at_lone = lone_below;
    at_implies = implies_below;
    at_all = all_below;
    at_any = any_below;
  }

  two : (f g : Ltl) → Below f → Below g → All Below (f ∷ g ∷ [])
  two f g p q = All-cons Below f (g ∷ []) p (All-cons Below g [] q (All-nil Below))

  three : (f g h : Ltl) → Below f → Below g → Below h → All Below (f ∷ g ∷ h ∷ [])
  three f g h p q r = All-cons Below f (g ∷ h ∷ []) p (two g h q r)

  conjunction_below : (fs : List Ltl) → All Below fs → Below (conjunction fs)
  conjunction_below [] all = true_below
  conjunction_below (f ∷ []) all = All-head Below f [] all
  conjunction_below (f ∷ g ∷ fs) all = all_below (f ∷ g ∷ fs) all

  module _ (i p r a' a h : Ltl) (bi : Below i) (bp : Below p) (br : Below r) (bs : Below a') (ba : Below a) (bh : Below h) where
    always_below : (f g : Ltl) → Below f → Below g → Below (ltl.All (ltl.Globally f ∷ g ∷ []))
    always_below f g bf bg = all_below _ (two (ltl.Globally f) g (unary_below u.Globally f bf) bg)

    plain_below : Below (plain i p r a' a h)
    plain_below =
        implies_below i _ bi (all_below _ (two p _ bp (implies_below _ _ (always_below r a br ba) (always_below a' h bs bh))))

    strict_below : Below (strict i p r a' a h)
    strict_below =
        implies_below i _ bi (all_below _ (three p _ _ bp
        (lone_below o.Weak a' (ltl.Not r) bs (unary_below u.Not r br))
        (implies_below _ h (always_below r a br ba) bh)))

  formula_below : (is_strict : Bool) (all : Sections) → Entries Below all → Below (formula_of is_strict all)
  formula_below true all e =
      strict_below _ _ _ _ _ _ (conjunction_below _ e.initially) (conjunction_below _ e.preset) (conjunction_below _ e.require)
      (conjunction_below _ e.assert) (conjunction_below _ e.assume) (conjunction_below _ e.guarantee)
  formula_below false all e =
      plain_below _ _ _ _ _ _ (conjunction_below _ e.initially) (conjunction_below _ e.preset) (conjunction_below _ e.require)
      (conjunction_below _ e.assert) (conjunction_below _ e.assume) (conjunction_below _ e.guarantee)

  -- the formula of a text whose names are declared and numbered below n
  pub read_below : (w : List Lexeme) (r : Heading × Sections) (is_strict : Bool) → All (IsSignalBelow n) w → All IsKnown w → read_text 256 w ≡ Ok r → Below (formula_of is_strict r.1)
  read_below w r is_strict below known is =
      let k = at_text IsSound (λ _. Unit {0}) Below sound w (λ j d l. (below j d l, known j d l)) in
      formula_below is_strict r.1 (subst (KeepsText IsSound (λ _. Unit {0}) Below sound) is k).1
