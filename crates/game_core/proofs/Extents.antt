-- The extent of a list of vectors falls where one of them is replaced by vectors strictly below it.
use Rattle.std.proofs.Common.{◌≡◌, ℕ, ◌<◌, ◌≤◌, Bool, true, false, cond, inl, inr, List, [], ◌∷◌, refl, sym, ◌∙◌, ap, subst, arith}
use Rattle.std.specs.Prelude.{ℤ}
use Rattle.std.specs.List.{All}
use Rattle.std.proofs.lemmas.List.Folds.{Any-from_list_any, list_any_at, list_any_none}
use Rattle.counter_vec.specs.Counters.{at_or_below}
use Rattle.counter_vec.specs.Orders.{below-trans}
use Rattle.game_core.specs.Front.{under, box, count_if, extent, Misses}
use Rattle.game_core.proofs.Boxes.{IsOf}

cond_true : (b : Bool) (m n : ℕ) → b ≡ true → cond b m n ≡ m
cond_true true m n e = refl
cond_true false m n e = cc

cond_false : (b : Bool) (m n : ℕ) → b ≡ false → cond b m n ≡ n
cond_false true m n e = cc
cond_false false m n e = refl

one_le : (a b : Bool) → (a ≡ true → b ≡ true) → cond a 1 0 ≤ cond b 1 0
one_le false b h = omega arith
one_le true b h = rw (h refl) (omega arith)

count_le : {X : Type 0} (p q : X → Bool) (xs : List X) → ((x : X) → p x ≡ true → q x ≡ true) → count_if p xs ≤ count_if q xs
count_le p q [] h = omega arith
count_le p q (x ∷ xs) h = omega (arith, one_le (p x) (q x) (h x), count_le p q xs h)

count_less : {X : Type 0} (p q : X → Bool) (xs : List X) (f : X) → ((x : X) → p x ≡ true → q x ≡ true) → IsOf f xs → p f ≡ false → q f ≡ true → count_if p xs < count_if q xs
count_less p q [] f h k miss hit = absurd k
count_less p q (x ∷ xs) f h (inl e) miss hit =
    omega (arith, cond_false (p x) 1 0 (ap p (sym e) ∙ miss), cond_true (q x) 1 0 (ap q (sym e) ∙ hit), count_le p q xs h)
count_less p q (x ∷ xs) f h (inr k) miss hit = omega (arith, one_le (p x) (q x) (h x), count_less p q xs f h k miss hit)

-- what is under members that are under vs is under vs
pub under_trans : (vs ws : List (List ℤ)) (v : List ℤ) → All (λ e. under vs e ≡ true) ws → under ws v ≡ true → under vs v ≡ true
under_trans vs ws v all h =
    let w = Any-from_list_any (λ e. at_or_below v e) ws h in
    let P : List ℤ → Type 0 = λ z. under vs z ≡ true in
    let u : under vs w.1 ≡ true = subst P w.3 (all w.0 w.1 w.2) in
    let y = Any-from_list_any (λ e. at_or_below w.1 e) vs u in
    list_any_at (λ e. at_or_below v e) vs y.0 y.1 y.2
    (let Q : List ℤ → Type 0 = λ z. at_or_below v z ≡ true in subst Q (sym y.3) (below-trans v w.1 y.1 w.4 y.4))

pub extent_falls : (k n : ℕ) (vs ws : List (List ℤ)) (f : List ℤ) → IsOf f (box k n) → under vs f ≡ true → Misses f ws → All (λ e. under vs e ≡ true) ws → extent k n ws < extent k n vs
unfolding extent
extent_falls k n vs ws f inside hit miss all =
    count_less (under ws) (under vs) (box k n) f (λ v. under_trans vs ws v all) inside (list_any_none (λ e. at_or_below f e) ws miss) hit
