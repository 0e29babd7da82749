-- Formulas as they are written.
use Rattle.std.specs.Prelude.{ℕ, Bool, true, ◌&&◌, List, [], ◌∷◌, nat_lt, map}
use Rattle.ltl_form.specs.declared.formulas.Ltl.{Ltl, fold-Ltl}
use Rattle.ltl_form.specs.declared.formulas.Ltl.TheOpen.{Ltl-F}

abbrev pub all_true : List Bool → Bool
all_true [] = true
all_true (b ∷ bs) = b && all_true bs

-- one level, with the answers for the formulas inside it
abbrev pub signals_below_step : ℕ → Ltl-F Bool → Bool
signals_below_step n Ltl-F.True = true
signals_below_step n Ltl-F.False = true
signals_below_step n (Ltl-F.Signal x) = nat_lt x n
signals_below_step n (Ltl-F.Not f) = f
signals_below_step n (Ltl-F.All fs) = all_true fs
signals_below_step n (Ltl-F.Any fs) = all_true fs
signals_below_step n (Ltl-F.Implies f g) = f && g
signals_below_step n (Ltl-F.Equiv f g) = f && g
signals_below_step n (Ltl-F.Next f) = f
signals_below_step n (Ltl-F.Finally f) = f
signals_below_step n (Ltl-F.Globally f) = f
signals_below_step n (Ltl-F.Until f g) = f && g
signals_below_step n (Ltl-F.Release f g) = f && g
signals_below_step n (Ltl-F.Weak f g) = f && g

-- each signal of the formula is below n
abbrev pub signals_below : ℕ → Ltl → Bool
signals_below n = fold-Ltl Bool (signals_below_step n)

abbrev pub all_below : ℕ → List Ltl → Bool
all_below n fs = all_true (map (signals_below n) fs)
