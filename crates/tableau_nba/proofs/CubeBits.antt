-- What a cube wants stays a part of what it cares for.
use Rattle.std.proofs.Common.{◌≡◌, ℕ, ◌*◌, ◌%◌, ◌^◌, ◌<◌, ◌≤◌, ◌⊎◌, inl, inr, min, max, cond, ap, sym, ◌∙◌, subst, arith}
use Rattle.std.proofs.Math.Nat.{mod-le}
use Rattle.std.proofs.lemmas.Nat.{one_shl, pow_below, or_lt}
use Rattle.std.specs.Prelude.{bit_and, bit_or}
use Rattle.std.specs.Int.{bit_at}
use Rattle.word_core.specs.declared.cubes.Cube.{Cube}
use Rattle.tableau_nba.specs.declared.cubes.Literal.{Literal}
use Rattle.tableau_nba.specs.Walks.{with_literal}
use Rattle.std.proofs.lemmas.Nat.Bits.{bit_at_and, bit_at_or, same_from_bits}

part_bit : (w c b : ℕ) → min w c ≡ w → min (max w b) (max c b) ≡ max w b
part_bit w c b h = omega arith

keep_bit : (w c b : ℕ) → min w c ≡ w → min w (max c b) ≡ w
keep_bit w c b h = omega arith

bit_part : (want care : ℕ) → bit_and want care ≡ want → (i : ℕ) → min (bit_at want i) (bit_at care i) ≡ bit_at want i
bit_part want care h i = sym (bit_at_and want care i) ∙ ap (λ n. bit_at n i) h

pub wants_more : (want care bit : ℕ) → bit_and want care ≡ want → bit_and (bit_or want bit) (bit_or care bit) ≡ bit_or want bit
wants_more want care bit h =
    same_from_bits _ _ (λ i.
    bit_at_and (bit_or want bit) (bit_or care bit) i
    ∙ ap (λ n. min n (bit_at (bit_or care bit) i)) (bit_at_or want bit i)
    ∙ ap (min (max (bit_at want i) (bit_at bit i))) (bit_at_or care bit i)
    ∙ part_bit (bit_at want i) (bit_at care i) (bit_at bit i) (bit_part want care h i)
    ∙ sym (bit_at_or want bit i))

pub cares_more : (want care bit : ℕ) → bit_and want care ≡ want → bit_and want (bit_or care bit) ≡ want
cares_more want care bit h =
    same_from_bits _ _ (λ i.
    bit_at_and want (bit_or care bit) i
    ∙ ap (min (bit_at want i)) (bit_at_or care bit i)
    ∙ keep_bit (bit_at want i) (bit_at care i) (bit_at bit i) (bit_part want care h i))

-- the bit of a signal below the width
pub signal_bit : (signal width : ℕ) → signal < width → (1 * 2 ^ signal) % 2 ^ 64 < 2 ^ width
signal_bit signal width h =
    let least : (1 * 2 ^ signal) % 2 ^ 64 ≤ 1 * 2 ^ signal = mod-le (1 * 2 ^ signal) (2 ^ 64) in
    let below : 2 ^ signal < 2 ^ width = pow_below signal width h in
    omega arith

pub one_bit : (signal : ℕ) → signal < 64 → (1 * 2 ^ signal) % 2 ^ 64 ≡ 2 ^ signal
one_bit signal h = one_shl signal 64 h

-- a cube with one literal more
pub cube_more : (width care want bit more : ℕ) → care < 2 ^ width → bit_and want care ≡ want → bit < 2 ^ width
    → (more ≡ bit_or want bit) ⊎ (more ≡ want) → (bit_or care bit < 2 ^ width) × (bit_and more (bit_or care bit) ≡ more)
cube_more width care want bit more h k l (inl e) =
    (or_lt width care bit h l, subst (λ m. bit_and m (bit_or care bit) ≡ m) (sym e) (wants_more want care bit k))
cube_more width care want bit more h k l (inr e) =
    (or_lt width care bit h l, subst (λ m. bit_and m (bit_or care bit) ≡ m) (sym e) (cares_more want care bit k))

abbrev pub cube_of_parts : ℕ → ℕ → Cube
cube_of_parts care want = record { care = care; want = want }

pub cube_is : (cube : Cube) (l : Literal) (want : ℕ) → l.signal < 64 → want ≡ cond l.positive (bit_or cube.want ((1 * 2 ^ l.signal) % 2 ^ 64)) cube.want
    → cube_of_parts (bit_or cube.care ((1 * 2 ^ l.signal) % 2 ^ 64)) want ≡ with_literal cube l
cube_is cube l want h e =
    ap (cube_of_parts (bit_or cube.care ((1 * 2 ^ l.signal) % 2 ^ 64))) (e ∙ ap (λ b. cond l.positive (bit_or cube.want b) cube.want) (one_bit l.signal h))
    ∙ ap (λ b. cube_of_parts (bit_or cube.care b) (cond l.positive (bit_or cube.want (2 ^ l.signal)) cube.want)) (one_bit l.signal h)
