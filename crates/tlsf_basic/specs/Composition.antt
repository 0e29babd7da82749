-- The formula that the sections make.
use Rattle.std.specs.Prelude.{Bool, true, false, List, [], ◌∷◌}
use Rattle.ltl_form.specs.declared.formulas.Ltl.{Ltl}
use Rattle.ltl_form.specs.declared.formulas.Ltl.TheVariants.{True, Not, All, Implies, Globally, Weak}
use Rattle.tlsf_basic.specs.declared.mains.Sections.{Sections}

-- all entries of a section
abbrev pub conjunction : List Ltl → Ltl
conjunction [] = True
conjunction (f ∷ []) = f
conjunction (f ∷ g ∷ fs) = All (f ∷ g ∷ fs)

-- for the sections initially, preset, require, assert, assume, guarantee
abbrev pub plain : Ltl → Ltl → Ltl → Ltl → Ltl → Ltl → Ltl
plain i p r s a h =
    Implies i (All (p ∷ Implies (All (Globally r ∷ a ∷ [])) (All (Globally s ∷ h ∷ [])) ∷ []))

-- the same where the asserted is owed as long as the required held
abbrev pub strict : Ltl → Ltl → Ltl → Ltl → Ltl → Ltl → Ltl
strict i p r s a h =
    Implies i (All (p ∷ Weak s (Not r) ∷ Implies (All (Globally r ∷ a ∷ [])) h ∷ []))

abbrev pub formula_of : Bool → Sections → Ltl
formula_of true all =
    strict (conjunction all.initially) (conjunction all.preset) (conjunction all.require)
    (conjunction all.assert) (conjunction all.assume) (conjunction all.guarantee)
formula_of false all =
    plain (conjunction all.initially) (conjunction all.preset) (conjunction all.require)
    (conjunction all.assert) (conjunction all.assume) (conjunction all.guarantee)
