-- Laws of `&` and `|` on single bits.
use Rattle.std.proofs.Common.{◌≡◌, ℕ, zero, suc, ◌+◌, ◌*◌, ◌/◌, ◌%◌, ◌-◌, ◌<◌, ◌^◌, ◌⊎◌, min, max, refl, sym, ap, ◌∙◌, subst, inl, inr, arith}
use Rattle.std.specs.Prelude.{IsTrue, nat_eq, bit_and, bit_or}
use Rattle.std.specs.Int.{bit_at}
use Rattle.std.proofs.lemmas.Nat.{shr_split, mod_below, pow_pos, div_below, and_comm, and_assoc, and_mask}
use Rattle.std.proofs.lemmas.Nat.Bits.{bit_at_and, bit_at_or, same_from_bits, and_pow, bit_at-lt}
use Rattle.std.proofs.lemmas.Bool.Decides.{Decides-eqb}
use Rattle.std.proofs.Math.Nat.{mod-eq_of_lt as mod-eq}
use Rattle.word_core.specs.Gap.{IsSingle}

pub shr_zero : (n k : ℕ) → (IsTrue (nat_eq (n / 2 ^ k) 0) → n < 2 ^ k) × (n < 2 ^ k → IsTrue (nat_eq (n / 2 ^ k) 0))
shr_zero n k = (
  λ h.
      let e : n / 2 ^ k ≡ 0 = (Decides-eqb (n / 2 ^ k) 0).0 h in
      let s : 0 * 2 ^ k + n % 2 ^ k ≡ n = subst (λ v. v * 2 ^ k + n % 2 ^ k ≡ n) e (shr_split n k) in
      let m = mod_below n (2 ^ k) (pow_pos k) in
      omega arith,
  λ h.
      let l : n / 2 ^ k < 1 = div_below n (2 ^ k) 1 (pow_pos k) (omega arith) in
      let e : n / 2 ^ k ≡ 0 = omega arith in
      (Decides-eqb (n / 2 ^ k) 0).1 e,
)

-- what is cared for within a block is decided there
pub within_block : (x care want inside : ℕ) → bit_and inside care ≡ inside → bit_and x care ≡ want → bit_and x inside ≡ bit_and want inside
within_block x care want inside e h =
    ap (bit_and x) (sym e) ∙ ap (bit_and x) (and_comm inside care) ∙ sym (and_assoc inside x care) ∙ ap (λ v. bit_and v inside) h

-- two cubes that hold one valuation agree on what both care for
pub both_agree : (x care want care' want' : ℕ) → bit_and x care ≡ want → bit_and x care' ≡ want' → bit_and want care' ≡ bit_and want' care
both_agree x care want care' want' h k =
    ap (λ v. bit_and v care') (sym h) ∙ and_assoc care' x care ∙ ap (bit_and x) (and_comm care care') ∙ sym (and_assoc care x care') ∙ ap (λ v. bit_and v care) k

min_max : (a b c : ℕ) → min a (max b c) ≡ max (min a b) (min a c)
min_max a b c = omega arith

pub and_or_distrib : (x a b : ℕ) → bit_and x (bit_or a b) ≡ bit_or (bit_and x a) (bit_and x b)
and_or_distrib x a b =
    same_from_bits _ _ (λ i.
    bit_at_and x (bit_or a b) i
    ∙ ap (min (bit_at x i)) (bit_at_or a b i)
    ∙ min_max (bit_at x i) (bit_at a i) (bit_at b i)
    ∙ sym (ap (λ v. max v (bit_at (bit_and x b) i)) (bit_at_and x a i) ∙ ap (max (min (bit_at x i) (bit_at a i))) (bit_at_and x b i))
    ∙ sym (bit_at_or (bit_and x a) (bit_and x b) i))

-- a power of two is a single bit
pub single_pow : (k : ℕ) → IsSingle (2 ^ k)
single_pow k x = go (bit_at x k) refl (bit_at-lt x k)
  where
    go : (b : ℕ) → bit_at x k ≡ b → b < 2 → (bit_and x (2 ^ k) ≡ 0) ⊎ (bit_and x (2 ^ k) ≡ 2 ^ k)
    go zero e l = let p : bit_and x (2 ^ k) ≡ 0 * 2 ^ k = and_pow x k ∙ ap (λ v. v * 2 ^ k) e in inl (omega arith)
    go (suc zero) e l = let p : bit_and x (2 ^ k) ≡ 1 * 2 ^ k = and_pow x k ∙ ap (λ v. v * 2 ^ k) e in inr (omega arith)
    go (suc (suc b)) e l = absurd (omega arith)

-- a number below a power of two has no bit from there on
pub and_low : (x care n : ℕ) → care < 2 ^ n → bit_and (x % 2 ^ n) care ≡ bit_and x care
and_low x care n l =
    let m : bit_and care (2 ^ n - 1) ≡ care = and_mask care n ∙ mod-eq l in
    ap (λ v. bit_and v care) (sym (and_mask x n))
    ∙ and_assoc care x (2 ^ n - 1)
    ∙ ap (bit_and x) (and_comm (2 ^ n - 1) care ∙ m)
