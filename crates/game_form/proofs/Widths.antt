-- Letters of two parts, and the widths of the sides.
use Rattle.std.proofs.Common.{◌≡◌, ℕ, ◌+◌, ◌*◌, ◌^◌, ◌<◌, ◌≤◌, ◌%◌, refl, arith}
use Rattle.std.proofs.lemmas.Nat.{mul-add-lt, pow-add, shl_whole}
use Rattle.std.proofs.Math.Nat.{pow-le-pow_right, add_comm}
use Rattle.word_core.specs.declared.names.Player.{Player}
use Rattle.word_core.specs.declared.names.Player.TheVariants.{System, Environment}
use Rattle.word_core.specs.Machine.{own_width, other_width}

-- a letter of parts within their widths is within the sum of the widths
pub parts_below : (low a high b : ℕ) → low < 2 ^ a → high < 2 ^ b → low + high * 2 ^ a < 2 ^ (a + b)
parts_below low a high b low_in high_in =
    omega (arith, mul-add-lt high (2 ^ a) low (2 ^ b) high_in low_in, pow-add 2 a b)

pub widths_sum : (p : Player) (i o : ℕ) → own_width p i o + other_width p i o ≡ i + o
widths_sum System i o = add_comm o i
widths_sum Environment i o = refl

-- at most 40 signals fit a word of 64 bits, and the shift loses nothing
pub joined_fits : (low a high b : ℕ) → low < 2 ^ a → high < 2 ^ b → a + b ≤ 40 → low + high * 2 ^ a < 2 ^ 40
joined_fits low a high b low_in high_in width =
    let few : 2 ^ (a + b) ≤ 2 ^ 40 = pow-le-pow_right (omega arith) width in
    omega (arith, parts_below low a high b low_in high_in)

pub shift_whole : (a high b : ℕ) → high < 2 ^ b → a + b ≤ 40 → (high * 2 ^ a) % 2 ^ 64 ≡ high * 2 ^ a
shift_whole a high b high_in width = shl_whole high b a 64 high_in (omega arith)
