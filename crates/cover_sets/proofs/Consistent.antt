-- Literals that contradict each other.
use Rattle.std.proofs.Common.{◌≡◌, ℕ, zero, suc, ◌+◌, ◌*◌, ◌^◌, ◌<◌, ◌≤◌, Bool, true, false, not, ◌&&◌, ◌||◌, nat_eq, List, [], ◌∷◌, ◌++◌, length, get_or, take, refl, sym, ap, ◌∙◌, arith, min, max}
use Rattle.std.specs.Prelude.{bit_and, bit_or}
use Rattle.std.specs.Int.{bit_at}
use Rattle.std.specs.List.{list_any}
use Rattle.std.proofs.lemmas.Bool.{not-true, ne_eqb}
use Rattle.std.proofs.lemmas.Nat.{and_comm, le_or_r, pow_pos}
use Rattle.std.proofs.lemmas.Nat.Bits.{and_pow, bit_at_and, bit_at_or, bit_at-lt, same_from_bits}
use Rattle.std.proofs.lemmas.List.{take_more}
use Rattle.cover_sets.specs.Covers.{consistent}
use Rattle.cover_sets.specs.Numbers.{has}
use Rattle.cover_sets.specs.Union.{clashes}
use Rattle.cover_sets.proofs.Orders.{no_bit, one_bit}
use Rattle.cover_sets.proofs.Words.{or_zero}

or_none : (a b : Bool) → (a || b) ≡ false → (a ≡ false) × (b ≡ false)
or_none true b h = absurd cc
or_none false b h = (refl, h)

-- ---- meeting a set with one number more

and_or : (a p y : ℕ) → bit_and (bit_or a p) y ≡ bit_or (bit_and a y) (bit_and p y)
and_or a p y =
    same_from_bits _ _ (λ i.
    let e : min (max (bit_at a i) (bit_at p i)) (bit_at y i) ≡ max (min (bit_at a i) (bit_at y i)) (min (bit_at p i) (bit_at y i)) = omega arith in
    bit_at_and (bit_or a p) y i
    ∙ ap (λ x. min x (bit_at y i)) (bit_at_or a p i)
    ∙ e
    ∙ ap (max (min (bit_at a i) (bit_at y i))) (sym (bit_at_and p y i))
    ∙ ap (λ x. max x (bit_at (bit_and p y) i)) (sym (bit_at_and a y i))
    ∙ sym (bit_at_or (bit_and a y) (bit_and p y) i))

and_false : (a : Bool) → (a && false) ≡ false
and_false true = refl
and_false false = refl

and_true : (a : Bool) → (a && true) ≡ a
and_true true = refl
and_true false = refl

pub meets_with : (a m y : ℕ) → nat_eq (bit_and (bit_or a (2 ^ m)) y) 0 ≡ (nat_eq (bit_and a y) 0 && not (has y m))
meets_with a m y = ap (λ x. nat_eq x 0) (and_or a (2 ^ m) y ∙ ap (bit_or (bit_and a y)) (and_comm (2 ^ m) y ∙ and_pow y m)) ∙ go (has y m) refl
  where
    go : (b : Bool) → has y m ≡ b → nat_eq (bit_or (bit_and a y) (bit_at y m * 2 ^ m)) 0 ≡ (nat_eq (bit_and a y) 0 && not b)
    go true h =
        let one : bit_at y m * 2 ^ m ≡ 1 * 2 ^ m = ap (λ b. b * 2 ^ m) (one_bit y m h) in
        let p : 0 < 2 ^ m = pow_pos m in
        let q : bit_at y m * 2 ^ m ≤ bit_or (bit_and a y) (bit_at y m * 2 ^ m) = le_or_r (bit_and a y) (bit_at y m * 2 ^ m) in
        ne_eqb _ 0 (λ (e : bit_or (bit_and a y) (bit_at y m * 2 ^ m) ≡ 0). absurd (omega arith)) ∙ sym (and_false (nat_eq (bit_and a y) 0))
    go false h =
        let none : bit_at y m * 2 ^ m ≡ 0 = ap (λ b. b * 2 ^ m) (no_bit y m h) ∙ omega arith in
        ap (λ x. nat_eq x 0) (ap (bit_or (bit_and a y)) none ∙ or_zero (bit_and a y)) ∙ sym (and_true (nat_eq (bit_and a y) 0))

-- the set stays where the literal is absent, and gains its negation where it is present
pub denied_yes : (a b literals literal negation y : ℕ) → b ≡ bit_or a (2 ^ negation) → has literals literal ≡ true
    → nat_eq (bit_and b y) 0 ≡ (nat_eq (bit_and a y) 0 && not (has literals literal && has y negation))
denied_yes a b literals literal negation y e h =
    ap (λ x. nat_eq (bit_and x y) 0) e ∙ meets_with a negation y ∙ ap (λ t. nat_eq (bit_and a y) 0 && not (t && has y negation)) (sym h)

pub denied_no : (a literals literal negation y : ℕ) → has literals literal ≡ false
    → nat_eq (bit_and a y) 0 ≡ (nat_eq (bit_and a y) 0 && not (has literals literal && has y negation))
denied_no a literals literal negation y h = sym (ap (λ t. nat_eq (bit_and a y) 0 && not (t && has y negation)) h ∙ and_true (nat_eq (bit_and a y) 0))

-- ---- pair by pair

any_push : (f : ℕ × ℕ → Bool) (xs : List (ℕ × ℕ)) (p : ℕ × ℕ) → list_any f (xs ++ p ∷ []) ≡ (list_any f xs || f p)
any_push f [] p = or_false (f p)
  where
    or_false : (b : Bool) → (b || false) ≡ b
    or_false true = refl
    or_false false = refl
any_push f (x ∷ xs) p = go (f x) (any_push f xs p)
  where
    go : (b : Bool) → list_any f (xs ++ p ∷ []) ≡ (list_any f xs || f p) → (b || list_any f (xs ++ p ∷ [])) ≡ ((b || list_any f xs) || f p)
    go true h = refl
    go false h = h

two_turns : (n u v : Bool) → ((not n && not u) && not v) ≡ not (n || (u || v))
two_turns true u v = refl
two_turns false true v = refl
two_turns false false v = refl

pub against_more : (pairs : List (ℕ × ℕ)) (i positive negative x a b c : ℕ) → i < length pairs → (positive, negative) ≡ get_or pairs i (0, 0)
    → ((y : ℕ) → nat_eq (bit_and a y) 0 ≡ not (clashes (take i pairs) x y))
    → ((y : ℕ) → nat_eq (bit_and b y) 0 ≡ (nat_eq (bit_and a y) 0 && not (has x positive && has y negative)))
    → ((y : ℕ) → nat_eq (bit_and c y) 0 ≡ (nat_eq (bit_and b y) 0 && not (has x negative && has y positive)))
    → (y : ℕ) → nat_eq (bit_and c y) 0 ≡ not (clashes (take (i + 1) pairs) x y)
against_more pairs i positive negative x a b c l is h k m y =
    m y
    ∙ ap (λ t. t && not (has x negative && has y positive)) (k y ∙ ap (λ t. t && not (has x positive && has y negative)) (h y))
    ∙ two_turns (clashes (take i pairs) x y) (has x positive && has y negative) (has x negative && has y positive)
    ∙ ap not (ap (λ p. clashes (take i pairs) x y || ((has x p.0 && has y p.1) || (has x p.1 && has y p.0))) is
    ∙ sym (any_push (λ p. (has x p.0 && has y p.1) || (has x p.1 && has y p.0)) (take i pairs) (get_or pairs i (0, 0)))
    ∙ ap (λ ps. clashes ps x y) (sym (take_more pairs i (0, 0) l)))

has_either : (x y n : ℕ) → has (bit_or x y) n ≡ (has x n || has y n)
has_either x y n = ap (λ b. nat_eq b 1) (bit_at_or x y n) ∙ go (bit_at x n) (bit_at y n) (bit_at-lt x n) (bit_at-lt y n)
  where
    go : (a b : ℕ) → a < 2 → b < 2 → nat_eq (max a b) 1 ≡ (nat_eq a 1 || nat_eq b 1)
    go zero zero h k = refl
    go zero (suc zero) h k = refl
    go (suc zero) zero h k = refl
    go (suc zero) (suc zero) h k = refl
    go (suc (suc a)) b h k = absurd (omega arith)
    go zero (suc (suc b)) h k = absurd (omega arith)
    go (suc zero) (suc (suc b)) h k = absurd (omega arith)

crossed : (a b c d : Bool) → (a && c) ≡ false → (b && d) ≡ false → ((a || b) && (c || d)) ≡ ((a && d) || (c && b))
crossed true b true d h k = absurd cc
crossed true true false true h k = absurd cc
crossed true true false false h k = refl
crossed true false false true h k = refl
crossed true false false false h k = refl
crossed false true true true h k = absurd cc
crossed false true true false h k = refl
crossed false true false true h k = absurd cc
crossed false true false false h k = refl
crossed false false true d h k = refl
crossed false false false d h k = refl

pub any_crossed : (pairs : List (ℕ × ℕ)) (x y : ℕ) → list_any (λ p. has x p.0 && has x p.1) pairs ≡ false → list_any (λ p. has y p.0 && has y p.1) pairs ≡ false
    → list_any (λ p. has (bit_or x y) p.0 && has (bit_or x y) p.1) pairs ≡ clashes pairs x y
any_crossed [] x y h k = refl
any_crossed (p ∷ ps) x y h k =
    let u = or_none _ _ h in
    let v = or_none _ _ k in
    ap (λ t. (has (bit_or x y) p.0 && has (bit_or x y) p.1) || t) (any_crossed ps x y u.1 v.1)
    ∙ ap (λ t. t || clashes ps x y)
    (ap (λ t. t && has (bit_or x y) p.1) (has_either x y p.0)
    ∙ ap (λ t. (has x p.0 || has y p.0) && t) (has_either x y p.1)
    ∙ crossed (has x p.0) (has y p.0) (has x p.1) (has y p.1) u.0 v.0)

-- a union of two consistent sets
pub consistent_union : (pairs : List (ℕ × ℕ)) (x y : ℕ) → consistent pairs x ≡ true → consistent pairs y ≡ true → consistent pairs (bit_or x y) ≡ not (clashes pairs x y)
consistent_union pairs x y h k = ap not (any_crossed pairs x y (not-true _ h) (not-true _ k))
