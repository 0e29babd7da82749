-- Truth on lassos. A walk from a position goes over as many positions as the lasso is long.
use Rattle.std.specs.Prelude.{ℕ, zero, suc, Bool, true, false, not, ◌&&◌, ◌||◌, nat_lt, nat_eq, List, [], ◌∷◌, length, if◌then◌else◌}
use Rattle.std.specs.Int.{bit_at}
use Rattle.word_core.specs.Lasso.{LassoData, size, bits_at}
use Rattle.ltl_form.specs.declared.formulas.Ltl.{Ltl, fold-Ltl}
use Rattle.ltl_form.specs.declared.formulas.Ltl.TheOpen.{Ltl-F}
use Rattle.ltl_form.specs.Tree.{Tree, truth, falsity, literal, conjoined, disjoined, following, until, release}

-- the position after p: behind the last one comes the first one of the cycle
abbrev pub after : LassoData → ℕ → ℕ
after w p = if nat_lt (suc p) (size w) then suc p else length w.stem

-- signal x in the letter at p
abbrev pub signal_at : LassoData → ℕ → ℕ → Bool
signal_at w x p = nat_eq (bit_at (bits_at w p) x) 1

-- g at one of n positions from p on, and f at each earlier one
abbrev pub until_within : LassoData → (ℕ → Bool) → (ℕ → Bool) → ℕ → ℕ → Bool
until_within w f g zero p = false
until_within w f g (suc n) p = g p || (f p && until_within w f g n (after w p))

-- at each of n positions from p on g, or f at an earlier one
abbrev pub release_within : LassoData → (ℕ → Bool) → (ℕ → Bool) → ℕ → ℕ → Bool
release_within w f g zero p = true
release_within w f g (suc n) p = g p && (f p || release_within w f g n (after w p))

abbrev pub until_at : LassoData → (ℕ → Bool) → (ℕ → Bool) → ℕ → Bool
until_at w f g p = until_within w f g (size w) p

abbrev pub release_at : LassoData → (ℕ → Bool) → (ℕ → Bool) → ℕ → Bool
release_at w f g p = release_within w f g (size w) p

abbrev pub all_at : List (ℕ → Bool) → ℕ → Bool
all_at [] p = true
all_at (f ∷ fs) p = f p && all_at fs p

abbrev pub any_at : List (ℕ → Bool) → ℕ → Bool
any_at [] p = false
any_at (f ∷ fs) p = f p || any_at fs p

-- one level of a formula, with where the formulas inside it hold
abbrev pub holds_step : LassoData → Ltl-F (ℕ → Bool) → ℕ → Bool
holds_step w Ltl-F.True p = true
holds_step w Ltl-F.False p = false
holds_step w (Ltl-F.Signal x) p = signal_at w x p
holds_step w (Ltl-F.Not f) p = not (f p)
holds_step w (Ltl-F.All fs) p = all_at fs p
holds_step w (Ltl-F.Any fs) p = any_at fs p
holds_step w (Ltl-F.Implies f g) p = not (f p) || g p
holds_step w (Ltl-F.Equiv f g) p = (f p && g p) || (not (f p) && not (g p))
holds_step w (Ltl-F.Next f) p = f (after w p)
holds_step w (Ltl-F.Finally f) p = until_at w (λ i. true) f p
holds_step w (Ltl-F.Globally f) p = release_at w (λ i. false) f p
holds_step w (Ltl-F.Until f g) p = until_at w f g p
holds_step w (Ltl-F.Release f g) p = release_at w f g p
holds_step w (Ltl-F.Weak f g) p = until_at w f g p || release_at w (λ i. false) f p

-- where a formula holds
abbrev pub holds_at : LassoData → Ltl → ℕ → Bool
holds_at w = fold-Ltl (ℕ → Bool) (holds_step w)

-- where a formula in normal form holds
abbrev pub tree_holds : LassoData → Tree → ℕ → Bool
tree_holds w truth p = true
tree_holds w falsity p = false
tree_holds w (literal x true) p = signal_at w x p
tree_holds w (literal x false) p = not (signal_at w x p)
tree_holds w (conjoined f g) p = tree_holds w f p && tree_holds w g p
tree_holds w (disjoined f g) p = tree_holds w f p || tree_holds w g p
tree_holds w (following f) p = tree_holds w f (after w p)
tree_holds w (until f g) p = until_at w (tree_holds w f) (tree_holds w g) p
tree_holds w (release f g) p = release_at w (tree_holds w f) (tree_holds w g) p
