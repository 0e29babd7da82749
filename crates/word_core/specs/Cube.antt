-- Cubes: sets of valuations that fix some signals.
use Rattle.std.specs.Prelude.{◌≡◌, ℕ, ◌<◌, ◌^◌, Bool, nat_eq, bit_and}
use Rattle.word_core.specs.declared.cubes.Cube.{Cube}

-- a cube holds a valuation whose cared bits are those that it wants
abbrev pub holds : Cube → ℕ → Bool
holds c bits = nat_eq (bit_and bits c.care) c.want

-- a cube over that many signals: it wants only bits that it cares for, and cares for no other signal
abbrev pub IsCube : ℕ → Cube → Type 0
IsCube width c = (c.care < 2 ^ width) × (bit_and c.want c.care ≡ c.want)
