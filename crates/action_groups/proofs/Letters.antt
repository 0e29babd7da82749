-- What an edge asks of a tree's signals is what its cube asks of the letter.
use Rattle.std.proofs.Common.{◌≡◌, ℕ, zero, suc, ◌+◌, ◌-◌, ◌*◌, ◌<◌, ◌≤◌, ◌^◌, ◌⊎◌, inl, inr, Bool, true, false, cond, ltb, ◌&&◌, ◌||◌, min, refl, sym, ap, ◌∙◌, subst, arith}
use Rattle.std.specs.Prelude.{nat_eq, bit_and}
use Rattle.std.specs.Int.{bit_at}
use Rattle.std.proofs.lemmas.Bool.{cases_eq, cases_lt, and_parts, lt-ltb, le-ltb}
use Rattle.std.proofs.lemmas.Bool.Decides.{Decides-eqb}
use Rattle.std.proofs.lemmas.Nat.Bits.{bit_at-lt, bit_at_and, same_from_bits, bit_at_above, bit_at_cat_low, bit_at_cat_high}
use Rattle.word_core.specs.declared.cubes.Cube.{Cube}
use Rattle.word_core.specs.Cube.{holds, IsCube}
use Rattle.action_groups.specs.declared.orders.Order.{Order}
use Rattle.action_groups.proofs.RowNumbers.{apart}
use Rattle.action_groups.specs.Tests.{signal_at, signal_of, allows, allows_from, IsLetterOf}

-- each of the places from one on is allowed
Allows : Order → ℕ → ℕ → ℕ → Cube → Type 0
Allows order n place bits c = (k : ℕ) → place ≤ k → k < place + n → allows c (signal_of order k) (bit_at bits k) ≡ true

each_place : (order : Order) (n place bits : ℕ) (c : Cube) → allows_from order n place bits c ≡ true → Allows order n place bits c
unfolding Allows
each_place order zero place bits c e k le lt = absurd (omega arith)
each_place order (suc n) place bits c e k le lt = go (λ l m. each_place order n (suc place) bits c (and_parts (allows c (signal_of order place) (bit_at bits place)) (allows_from order n (suc place) bits c) e).1 k l m) (cases_eq k place)
  where
    parts : (allows c (signal_of order place) (bit_at bits place) ≡ true) × (allows_from order n (suc place) bits c ≡ true)
    parts = and_parts (allows c (signal_of order place) (bit_at bits place)) (allows_from order n (suc place) bits c) e

    go : (suc place ≤ k → k < suc place + n → allows c (signal_of order k) (bit_at bits k) ≡ true) → (k ≡ place) ⊎ (k ≡ place → ⊥) → allows c (signal_of order k) (bit_at bits k) ≡ true
    go r (inl f) = subst (λ j. allows c (signal_of order j) (bit_at bits j) ≡ true) (sym f) parts.0
    go r (inr f) = r (above k le f) (omega arith)
      where
        above : (j : ℕ) → place ≤ j → (j ≡ place → ⊥) → suc place ≤ j
        above j l g = under (cases_lt place j)
          where
            under : (place < j) ⊎ (j ≤ place) → suc place ≤ j
            under (inl a) = a
            under (inr a) = absurd (g (omega arith))

all_places : (order : Order) (n place bits : ℕ) (c : Cube) → Allows order n place bits c → allows_from order n place bits c ≡ true
unfolding Allows
all_places order zero place bits c h = refl
all_places order (suc n) place bits c h =
    ap (λ b. b && allows_from order n (suc place) bits c) (h place (omega arith) (omega arith))
    ∙ all_places order n (suc place) bits c (λ k le lt. h k (omega arith) (omega arith))

-- a cube holds a letter exactly where it allows each of its signals
held_signal : (c : Cube) (x s : ℕ) → holds c x ≡ true → allows c s (bit_at x s) ≡ true
held_signal c x s h = go (cases_eq (bit_at c.care s) 0)
  where
    e : bit_at (bit_and x c.care) s ≡ bit_at c.want s
    e = ap (λ n. bit_at n s) ((Decides-eqb (bit_and x c.care) c.want).0 h)

    one : bit_at c.want s ≡ min (bit_at x s) (bit_at c.care s)
    one = sym e ∙ bit_at_and x c.care s

    right : (a b : Bool) → b ≡ true → (a || b) ≡ true
    right true b f = refl
    right false b f = f

    go : (bit_at c.care s ≡ 0) ⊎ (bit_at c.care s ≡ 0 → ⊥) → allows c s (bit_at x s) ≡ true
    go (inl f) = ap (λ b. b || nat_eq (bit_at c.want s) (bit_at x s)) ((Decides-eqb (bit_at c.care s) 0).1 f)
    go (inr n) =
        let same : bit_at c.want s ≡ bit_at x s = full (bit_at x s) (bit_at c.care s) (bit_at c.want s) (bit_at-lt x s) (bit_at-lt c.care s) n one in
        right (nat_eq (bit_at c.care s) 0) (nat_eq (bit_at c.want s) (bit_at x s)) ((Decides-eqb (bit_at c.want s) (bit_at x s)).1 same)
      where
        full : (a b w : ℕ) → a < 2 → b < 2 → (b ≡ 0 → ⊥) → w ≡ min a b → w ≡ a
        full a zero w la lb ne f = absurd (ne refl)
        full a (suc b) w la lb ne f = omega arith

right_of : (a b : Bool) → a ≡ false → (a || b) ≡ true → b ≡ true
right_of true b e f = absurd (cc)
right_of false b e f = f

signals_held : (signals : ℕ) (c : Cube) (x : ℕ) → IsCube signals c → ((s : ℕ) → s < signals → allows c s (bit_at x s) ≡ true) → holds c x ≡ true
signals_held signals c x cube h = (Decides-eqb (bit_and x c.care) c.want).1 (same_from_bits (bit_and x c.care) c.want (λ s. bit s (cases_lt s signals)))
  where
    low : (s : ℕ) → bit_at c.want s ≡ min (bit_at c.want s) (bit_at c.care s)
    low s = ap (λ n. bit_at n s) (sym cube.1) ∙ bit_at_and c.want c.care s

    none : (a b w : ℕ) → b ≡ 0 → w ≡ min w b → min a b ≡ w
    none a b w e f = omega arith

    full : (a b w : ℕ) → a < 2 → b < 2 → (b ≡ 0 → ⊥) → w ≡ a → min a b ≡ w
    full a zero w la lb ne f = absurd (ne refl)
    full a (suc b) w la lb ne f = omega arith

    wanted : (a b w : ℕ) → (b ≡ 0 → ⊥) → (nat_eq b 0 || nat_eq w a) ≡ true → w ≡ a
    wanted a b w ne e = (Decides-eqb w a).0 (right_of (nat_eq b 0) (nat_eq w a) (apart b 0 ne) e)

    bit : (s : ℕ) → (s < signals) ⊎ (signals ≤ s) → bit_at (bit_and x c.care) s ≡ bit_at c.want s
    bit s (inr above) =
        bit_at_and x c.care s ∙ none (bit_at x s) (bit_at c.care s) (bit_at c.want s) (bit_at_above c.care signals s cube.0 above) (low s)
    bit s (inl below) = bit_at_and x c.care s ∙ go (cases_eq (bit_at c.care s) 0)
      where
        go : (bit_at c.care s ≡ 0) ⊎ (bit_at c.care s ≡ 0 → ⊥) → min (bit_at x s) (bit_at c.care s) ≡ bit_at c.want s
        go (inl e) = none (bit_at x s) (bit_at c.care s) (bit_at c.want s) e (low s)
        go (inr ne) = full (bit_at x s) (bit_at c.care s) (bit_at c.want s) (bit_at-lt x s) (bit_at-lt c.care s) ne (wanted (bit_at x s) (bit_at c.care s) (bit_at c.want s) ne (h s below))

same_truth : (a b : Bool) → (a ≡ true → b ≡ true) → (b ≡ true → a ≡ true) → a ≡ b
same_truth true true f g = refl
same_truth true false f g = (let h = f refl in absurd (cc))
same_truth false true f g = (let h = g refl in absurd (cc))
same_truth false false f g = refl

pub allowed_is_held : (order : Order) (x bits : ℕ) (c : Cube) → IsLetterOf order.inputs order.outputs order.inputs_first x bits → IsCube (order.inputs + order.outputs) c → allows_from order (order.inputs + order.outputs) 0 bits c ≡ holds c x
unfolding Allows
allowed_is_held order x bits c letter cube = same_truth (allows_from order (order.inputs + order.outputs) 0 bits c) (holds c x) forth back
  where
    forth : allows_from order (order.inputs + order.outputs) 0 bits c ≡ true → holds c x ≡ true
    forth e = signals_held (order.inputs + order.outputs) c x cube (λ s lt. (
        let w = letter.place s lt in
        subst (λ n. allows c n (bit_at x n) ≡ true) w.2 (ap (allows c (signal_of order w.0)) (letter.bit w.0 w.1) ∙ each_place order (order.inputs + order.outputs) 0 bits c e w.0 (omega arith) (omega (arith, w.1)))))

    back : holds c x ≡ true → allows_from order (order.inputs + order.outputs) 0 bits c ≡ true
    back e = all_places order (order.inputs + order.outputs) 0 bits c (λ k le lt. (
        ap (allows c (signal_of order k)) (sym (letter.bit k (omega (arith, lt)))) ∙ held_signal c x (signal_of order k) e))

-- inputs first
pub inputs_first : (n m : ℕ) (first : Bool) (i o : ℕ) → first ≡ true → IsLetterOf n m first (o * 2 ^ n + i) (i + o * 2 ^ n)
inputs_first n m first i o e = record {
  bit = λ k lt. ap (bit_at (o * 2 ^ n + i)) (signal k) ∙ ap (λ y. bit_at y k) swap;
  place = λ s lt. (s, lt, signal s);
}
  where
    signal : (k : ℕ) → signal_at n m first k ≡ k
    signal k = ap (λ b. cond b k (cond (ltb k m) (n + k) (k - m))) e

    swap : o * 2 ^ n + i ≡ i + o * 2 ^ n
    swap = omega arith

-- outputs first
pub outputs_first : (n m : ℕ) (first : Bool) (i o : ℕ) → first ≡ false → i < 2 ^ n → o < 2 ^ m → IsLetterOf n m first (o * 2 ^ n + i) (o + i * 2 ^ m)
outputs_first n m first i o e il ol = record {
  bit = λ k lt. bit k lt (cases_lt k m);
  place = λ s lt. place s lt (cases_lt s n);
}
  where
    signal : (k : ℕ) (b : Bool) → ltb k m ≡ b → signal_at n m first k ≡ cond b (n + k) (k - m)
    signal k b f = ap (λ t. cond t k (cond (ltb k m) (n + k) (k - m))) e ∙ ap (λ t. cond t (n + k) (k - m)) f

    swap : i * 2 ^ m + o ≡ o + i * 2 ^ m
    swap = omega arith

    bit : (k : ℕ) → k < n + m → (k < m) ⊎ (m ≤ k) → bit_at (o * 2 ^ n + i) (signal_at n m first k) ≡ bit_at (o + i * 2 ^ m) k
    bit k lt (inl l) =
        let back : n + k - n ≡ k = omega arith in
        ap (bit_at (o * 2 ^ n + i)) (signal k true (lt-ltb k m l))
        ∙ bit_at_cat_high o n i (n + k) il (omega arith)
        ∙ ap (bit_at o) back
        ∙ sym (bit_at_cat_low i m o k l)
        ∙ ap (λ y. bit_at y k) swap
    bit k lt (inr l) =
        ap (bit_at (o * 2 ^ n + i)) (signal k false (le-ltb k m l))
        ∙ bit_at_cat_low o n i (k - m) (omega arith)
        ∙ sym (bit_at_cat_high i m o k ol l)
        ∙ ap (λ y. bit_at y k) swap

    place : (s : ℕ) → s < n + m → (s < n) ⊎ (n ≤ s) → (k : ℕ) × (k < n + m) × (signal_at n m first k ≡ s)
    place s lt (inl l) =
        let back : m + s - m ≡ s = omega arith in
        (m + s, omega arith, signal (m + s) false (le-ltb (m + s) m (omega arith)) ∙ back)
    place s lt (inr l) =
        let back : n + (s - n) ≡ s = omega arith in
        (s - n, omega arith, signal (s - n) true (lt-ltb (s - n) m (omega arith)) ∙ back)
