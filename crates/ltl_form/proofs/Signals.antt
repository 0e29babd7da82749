-- What holds of each formula of a list.
use Rattle.std.proofs.Common.{◌≡◌, ℕ, zero, suc, ◌<◌, true, List, [], ◌∷◌, length, get_or, arith}
use Rattle.std.proofs.lemmas.Bool.{and_parts}
use Rattle.ltl_form.specs.declared.formulas.Ltl.{Ltl}
use Rattle.ltl_form.specs.Formula.{signals_below, all_below}

pub all_below_at : (n : ℕ) (fs : List Ltl) (i : ℕ) (d : Ltl) → all_below n fs ≡ true → i < length fs → signals_below n (get_or fs i d) ≡ true
all_below_at n [] i d h l = absurd (omega arith)
all_below_at n (f ∷ fs) zero d h l = (and_parts (signals_below n f) (all_below n fs) h).0
all_below_at n (f ∷ fs) (suc i) d h l = all_below_at n fs i d (and_parts (signals_below n f) (all_below n fs) h).1 (omega arith)
