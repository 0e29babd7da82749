-- The two halves of a cube by a signal.
use Rattle.std.proofs.Common.{◌≡◌, ℕ, ◌+◌, ◌-◌, ◌*◌, ◌/◌, ◌%◌, ◌^◌, ◌<◌, ◌≤◌, Bool, true, false, cond, eqb, ◌&&◌, bit_and, sym, ◌∙◌, ap, subst, arith}
use Rattle.std.proofs.lemmas.Bool.Decides.{Decides-eqb}
use Rattle.std.proofs.lemmas.Nat.{and_block, and_le_r, pow-add, pow_pos, shr_split, shr-shr, shr_high, mod_low, mod_below, shr_below, mul-add-lt}
use Rattle.word_core.specs.declared.cubes.Cube.{Cube}
use Rattle.word_core.specs.Cube.{IsCube, holds}
use Rattle.letter_tree.specs.Splitting.{fixed}
use Rattle.letter_tree.proofs.SplitLines.{holds_fixed}
use Rattle.strategy_play.proofs.Leading.{and_left, and_right}

pub want_within : (width : ℕ) (c : Cube) → IsCube width c → c.want < 2 ^ width
want_within width c is = omega (arith, is.0, is.1, and_le_r c.want c.care)

-- a cube holds the least valuation that it holds
pub want_held : (width : ℕ) (c : Cube) → IsCube width c → holds c c.want ≡ true
want_held width c is = (Decides-eqb (bit_and c.want c.care) c.want).1 is.1

-- a cube asks nothing of the signals from its width on
cared : (s : ℕ) (c : Cube) (x : ℕ) → IsCube s c → bit_and x c.care ≡ bit_and (x % 2 ^ s) c.care
cared s c x is =
    let b : c.care ≡ 0 * 2 ^ s + c.care = omega arith in
    let z : bit_and (x / 2 ^ s) 0 ≡ 0 = omega (arith, and_le_r (x / 2 ^ s) 0) in
    ap (λ n. bit_and n c.care) (sym (shr_split x s)) ∙ ap (λ n. bit_and (x / 2 ^ s * 2 ^ s + x % 2 ^ s) n) b
    ∙ and_block s (x / 2 ^ s) 0 (x % 2 ^ s) c.care (mod_below x (2 ^ s) (pow_pos s)) is.0 ∙ ap (λ n. n * 2 ^ s + bit_and (x % 2 ^ s) c.care) z ∙ omega arith

pub held_alike : (s : ℕ) (c : Cube) (x y : ℕ) → IsCube s c → x % 2 ^ s ≡ y % 2 ^ s → holds c x ≡ holds c y
held_alike s c x y is e = ap (λ n. eqb n c.want) (cared s c x is ∙ ap (λ n. bit_and n c.care) e ∙ sym (cared s c y is))

-- a half holds what the cube holds with the value of the signal
pub half_inside : (s : ℕ) (c : Cube) (v : Bool) (x : ℕ) → IsCube s c → holds (fixed c s v) x ≡ true → (holds c x ≡ true) × (x / 2 ^ s % 2 ≡ cond v 1 0)
half_inside s c v x is h =
    let both : (holds c x && eqb (x / 2 ^ s % 2) (cond v 1 0)) ≡ true = sym (holds_fixed s c v x is) ∙ h in
    (and_left (holds c x) (eqb (x / 2 ^ s % 2) (cond v 1 0)) both, (Decides-eqb (x / 2 ^ s % 2) (cond v 1 0)).0 (and_right (holds c x) (eqb (x / 2 ^ s % 2) (cond v 1 0)) both))

pub half_holds : (s : ℕ) (c : Cube) (v : Bool) (x : ℕ) → IsCube s c → holds c x ≡ true → x / 2 ^ s % 2 ≡ cond v 1 0 → holds (fixed c s v) x ≡ true
half_holds s c v x is h b = holds_fixed s c v x is ∙ ap (λ t. t && eqb (x / 2 ^ s % 2) (cond v 1 0)) h ∙ (Decides-eqb (x / 2 ^ s % 2) (cond v 1 0)).1 b

-- what is alike from a signal on is alike from later ones on
pub later_alike : (k s x y : ℕ) → k ≤ s → x / 2 ^ k ≡ y / 2 ^ k → x / 2 ^ s ≡ y / 2 ^ s
later_alike k s x y l e =
    let f : k + (s - k) ≡ s = omega arith in
    ap (λ n. x / 2 ^ n) (sym f) ∙ sym (shr-shr x k (s - k)) ∙ ap (λ n. n / 2 ^ (s - k)) e ∙ shr-shr y k (s - k) ∙ ap (λ n. y / 2 ^ n) f

-- a valuation without a signal, with it: only the signal changes
pub record IsRaised (s x y : ℕ) : Type 0 where
  pub has : y / 2 ^ s % 2 ≡ 1
  pub lower : y % 2 ^ s ≡ x % 2 ^ s
  pub upper : y / 2 ^ (s + 1) ≡ x / 2 ^ (s + 1)
  pub within : (w : ℕ) → s < w → x < 2 ^ w → y < 2 ^ w

halves : (q : ℕ) → q % 2 ≡ 0 → ((q + 1) % 2 ≡ 1) × ((q + 1) / 2 ≡ q / 2)
halves q e = (omega arith, omega arith)

next_block : (q p r : ℕ) → q * p + r + p ≡ (q + 1) * p + r
next_block q p r = omega arith

doubled : (w s : ℕ) → s < w → 2 ^ (w - s) ≡ 2 ^ (w - s - 1) * 2
doubled w s l = let e : w - s ≡ w - s - 1 + 1 = omega arith in ap (λ n. 2 ^ n) e ∙ pow-add 2 (w - s - 1) 1

block : (w s : ℕ) → s < w → 2 ^ s * (2 ^ (w - s - 1) * 2) ≡ 2 ^ w
block w s l = let e : s + (w - s) ≡ w = omega arith in ap (λ n. 2 ^ s * n) (sym (doubled w s l)) ∙ sym (pow-add 2 s (w - s)) ∙ ap (λ n. 2 ^ n) e

even_below : (q p : ℕ) → q % 2 ≡ 0 → q < p * 2 → q + 1 < p * 2
even_below q p e l = omega arith

pub raised : (s x : ℕ) → x / 2 ^ s % 2 ≡ 0 → IsRaised s x (x + 2 ^ s)
raised s x e = record {
  has = ap (λ n. n % 2) top ∙ (halves (x / 2 ^ s) e).0;
  lower = ap (λ n. n % 2 ^ s) at ∙ mod_low (x / 2 ^ s + 1) s (x % 2 ^ s) small;
  upper = sym (shr-shr (x + 2 ^ s) s 1) ∙ ap (λ n. n / 2) top ∙ (halves (x / 2 ^ s) e).1 ∙ shr-shr x s 1;
  within = λ w l lt.
      let f : w - s + s ≡ w = omega arith in
      let q : x / 2 ^ s < 2 ^ (w - s) = shr_below x (w - s) s (subst (λ n. x < 2 ^ n) (sym f) lt) in
      let n : x / 2 ^ s + 1 < 2 ^ (w - s - 1) * 2 = even_below (x / 2 ^ s) (2 ^ (w - s - 1)) e (subst (λ n. x / 2 ^ s < n) (doubled w s l) q) in
      subst (λ n. n < 2 ^ w) (sym at) (subst (λ n. (x / 2 ^ s + 1) * 2 ^ s + x % 2 ^ s < n) (block w s l) (mul-add-lt (x / 2 ^ s + 1) (2 ^ s) (x % 2 ^ s) (2 ^ (w - s - 1) * 2) n small));
}
  where
    small : x % 2 ^ s < 2 ^ s
    small = mod_below x (2 ^ s) (pow_pos s)

    at : x + 2 ^ s ≡ (x / 2 ^ s + 1) * 2 ^ s + x % 2 ^ s
    at = ap (λ n. n + 2 ^ s) (sym (shr_split x s)) ∙ next_block (x / 2 ^ s) (2 ^ s) (x % 2 ^ s)

    top : (x + 2 ^ s) / 2 ^ s ≡ x / 2 ^ s + 1
    top = ap (λ n. n / 2 ^ s) at ∙ shr_high (x / 2 ^ s + 1) s (x % 2 ^ s) small

-- the half with the signal holds what the other holds, raised
pub raised_held : (s : ℕ) (c : Cube) (x : ℕ) → IsCube s c → holds (fixed c s false) x ≡ true → IsRaised s x (x + 2 ^ s) × (holds c (x + 2 ^ s) ≡ true)
raised_held s c x is h =
    let f = half_inside s c false x is h in
    let r = raised s x f.1 in
    (r, held_alike s c (x + 2 ^ s) x is r.lower ∙ f.0)

-- a valuation of the half without a signal, whose later signals are given
pub record IsWithout (w s : ℕ) (c : Cube) (bits x : ℕ) : Type 0 where
  pub within : x < 2 ^ w
  pub held : holds c x ≡ true
  pub lacks : x / 2 ^ s % 2 ≡ 0
  pub upper : x / 2 ^ (s + 1) ≡ bits / 2 ^ (s + 1)

twice : (q : ℕ) → (q * 2 % 2 ≡ 0) × (q * 2 / 2 ≡ q)
twice q = (omega arith, omega arith)

twice_below : (q p : ℕ) → q < p → q * 2 < p * 2
twice_below q p l = omega arith

pub lacking : (w s : ℕ) (c : Cube) (bits : ℕ) → s < w → IsCube s c → bits < 2 ^ w → IsWithout w s c bits (bits / 2 ^ (s + 1) * 2 * 2 ^ s + c.want)
lacking w s c bits l is lt = record {
  within = subst (λ n. q * 2 * 2 ^ s + c.want < n) (block w s l) (mul-add-lt (q * 2) (2 ^ s) c.want (2 ^ (w - s - 1) * 2) (twice_below q (2 ^ (w - s - 1)) q_below) small);
  held =
      let z : c.want ≡ 0 * 2 ^ s + c.want = omega arith in
      held_alike s c (q * 2 * 2 ^ s + c.want) c.want is (mod_low (q * 2) s c.want small ∙ sym (ap (λ n. n % 2 ^ s) z ∙ mod_low 0 s c.want small)) ∙ want_held s c is;
  lacks = ap (λ n. n % 2) top ∙ (twice q).0;
  upper = sym (shr-shr (q * 2 * 2 ^ s + c.want) s 1) ∙ ap (λ n. n / 2) top ∙ (twice q).1;
}
  where
    q : ℕ
    q = bits / 2 ^ (s + 1)

    small : c.want < 2 ^ s
    small = want_within s c is

    q_below : bits / 2 ^ (s + 1) < 2 ^ (w - s - 1)
    q_below = let e : w - s - 1 + (s + 1) ≡ w = omega arith in shr_below bits (w - s - 1) (s + 1) (subst (λ n. bits < 2 ^ n) (sym e) lt)

    top : (bits / 2 ^ (s + 1) * 2 * 2 ^ s + c.want) / 2 ^ s ≡ bits / 2 ^ (s + 1) * 2
    top = shr_high (bits / 2 ^ (s + 1) * 2) s c.want small
