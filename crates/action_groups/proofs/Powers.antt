-- Powers of two.
use Rattle.std.proofs.Common.{◌≡◌, ℕ, suc, ◌+◌, ◌*◌, ◌^◌, ◌<◌, ◌≤◌, ap, ◌∙◌, arith}
use Rattle.std.proofs.Math.Nat.{pow-succ', pow-le-pow_right}

pub power_more : (n : ℕ) → 2 ^ (n + 1) ≡ 2 * 2 ^ n
power_more n = let e : n + 1 ≡ suc n = omega arith in ap (λ m. 2 ^ m) e ∙ pow-succ' 2 n

pub power_small : (v n : ℕ) → n < 40 → v < 2 ^ n → 2 * v + 1 < 2 ^ 64
power_small v n h k =
    let le : n ≤ 40 = omega arith in
    let most : 2 ^ n ≤ 2 ^ 40 = pow-le-pow_right (omega arith) le in
    omega (arith, most)
