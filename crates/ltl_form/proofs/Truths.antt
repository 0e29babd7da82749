-- Laws of the two truth values.
use Rattle.std.proofs.Common.{◌≡◌, Bool, true, false, not, ◌&&◌, ◌||◌, refl, ap, sym, ◌∙◌}

pub true_and : (x y : Bool) → x ≡ true → y ≡ (x && y)
true_and true y h = refl
true_and false y h = absurd (cc)

pub and_true : (x y : Bool) → y ≡ true → x ≡ (x && y)
and_true true y h = sym h
and_true false y h = refl

pub false_and : (x y : Bool) → x ≡ false → x ≡ (x && y)
false_and true y h = absurd (cc)
false_and false y h = refl

pub and_false : (x y : Bool) → y ≡ false → y ≡ (x && y)
and_false true y h = refl
and_false false y h = h

pub true_or : (x y : Bool) → x ≡ true → x ≡ (x || y)
true_or true y h = refl
true_or false y h = absurd (cc)

pub or_true : (x y : Bool) → y ≡ true → y ≡ (x || y)
or_true true y h = h
or_true false y h = refl

pub false_or : (x y : Bool) → x ≡ false → y ≡ (x || y)
false_or true y h = absurd (cc)
false_or false y h = refl

pub or_false : (x y : Bool) → y ≡ false → x ≡ (x || y)
or_false true y h = refl
or_false false y h = sym h

pub both_and : (x y z v : Bool) → x ≡ z → y ≡ v → (x && y) ≡ (z && v)
both_and x y z v h k = ap (λ b. b && y) h ∙ ap (λ b. z && b) k

pub both_or : (x y z v : Bool) → x ≡ z → y ≡ v → (x || y) ≡ (z || v)
both_or x y z v h k = ap (λ b. b || y) h ∙ ap (λ b. z || b) k

pub not_not : (x : Bool) → x ≡ not (not x)
not_not true = refl
not_not false = refl

pub both_not : (x y : Bool) → (not x || not y) ≡ not (x && y)
both_not true y = refl
both_not false y = refl

pub and_nothing : (x y : Bool) → (not x && not y) ≡ not (x || y)
and_nothing true y = refl
and_nothing false y = refl

-- a step of an until that doesn't hold, and of a release that doesn't
pub not_or : (g f u r : Bool) → r ≡ not u → (not g && (not f || r)) ≡ not (g || (f && u))
not_or true f u r h = refl
not_or false true u r h = h
not_or false false u r h = refl

pub not_and : (g f r u : Bool) → u ≡ not r → (not g || (not f && u)) ≡ not (g && (f || r))
not_and true true r u h = refl
not_and true false r u h = h
not_and false f r u h = refl

-- different where not the same
pub not_same : (x y : Bool) → ((x && not y) || (not x && not (not y))) ≡ not ((x && y) || (not x && not y))
not_same true true = refl
not_same true false = refl
not_same false true = refl
not_same false false = refl

-- a step of a weak until
pub weak_step : (f g r u e : Bool) → r ≡ (u || e) → ((f || g) && (g || r)) ≡ ((g || (f && u)) || (f && (false || e)))
weak_step true true r u e h = refl
weak_step true false r u e h = h
weak_step false true r u e h = refl
weak_step false false r u e h = refl
