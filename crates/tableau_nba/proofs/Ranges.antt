-- Ranges in two parts.
use Rattle.std.proofs.Common.{◌≡◌, ℕ, zero, suc, ◌+◌, ◌++◌, ◌∷◌, ap, ◌∙◌, arith}
use Rattle.std.specs.List.{range_with_len}

pub range_split : (s d m : ℕ) → range_with_len s (d + m) ≡ range_with_len s d ++ range_with_len (s + d) m
range_split s zero m =
    let e : 0 + m ≡ m = omega arith in
    let f : s ≡ s + 0 = omega arith in
    ap (range_with_len s) e ∙ ap (λ n. range_with_len n m) f
range_split s (suc d) m =
    let e : suc d + m ≡ suc (d + m) = omega arith in
    let f : s + 1 + d ≡ s + suc d = omega arith in
    ap (range_with_len s) e ∙ ap (λ xs. s ∷ xs) (range_split (s + 1) d m ∙ ap (λ n. range_with_len (s + 1) d ++ range_with_len n m) f)
