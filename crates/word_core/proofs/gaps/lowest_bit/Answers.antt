use Rattle.std.proofs.Common.{ℕ, ◌≡◌, ◌*◌, ◌^◌, ◌∙◌, sym, ap, subst, arith}
use Rattle.std.specs.Prelude.{bit_and}
use Rattle.std.specs.Int.{w64, trailing_zeros}
use Rattle.std.proofs.lemmas.Nat.{and_comm, one_shl}
use Rattle.std.proofs.lemmas.Nat.Bits.{and_pow, bit_at-trailing_zeros}
use Rattle.word_core.specs.Gap.{IsSingle}
use Rattle.word_core.proofs.BitLaws.{single_pow}
use Rattle.word_core.proofs.gaps.lowest_bit.Goals as goal

once : (n : ℕ) → 1 * n ≡ n
once n = omega arith

pub returns-clause-part : goal.returns-clause-part
returns-clause-part c =
    let k = trailing_zeros w64 c.args.bits in
    let t = bit_at-trailing_zeros w64 c.args.bits c.requires c.ranges.bits.fits in
    let s = one_shl k 64 t.0 in
    let p : bit_and (2 ^ k) c.args.bits ≡ 2 ^ k = and_comm (2 ^ k) c.args.bits ∙ and_pow c.args.bits k ∙ ap (λ v. v * 2 ^ k) t.1 ∙ once (2 ^ k) in
    subst (λ v. bit_and v c.args.bits ≡ v) (sym s) p

pub returns-clause-single : goal.returns-clause-single
returns-clause-single c =
    let k = trailing_zeros w64 c.args.bits in
    let t = bit_at-trailing_zeros w64 c.args.bits c.requires c.ranges.bits.fits in
    let s = one_shl k 64 t.0 in
    subst IsSingle (sym s) (single_pow k)
