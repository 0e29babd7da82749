-- The bounds that are tried: first, first + step and so on below last, then last.
use Rattle.std.specs.Prelude.{◌≡◌, ℕ, ◌+◌, ◌*◌, ◌<◌, ◌≤◌, ◌⊎◌, Option, Some, None, nat_eq, min, if◌then◌else◌}
use Rattle.dual_game.specs.declared.bounds.Bounds.{Bounds}

-- there is a bound to try, and each next one is greater
pub record AreBounds (b : Bounds) : Type 0 where
  pub ordered : b.first ≤ b.last
  pub rising : 1 ≤ b.step

-- the bound that is tried after k, None after the last one
abbrev pub tried_after : Bounds → ℕ → Option ℕ
tried_after b k = if nat_eq k b.last then None else Some (min (k + b.step) b.last)

-- first, first + step, first + 2 step and so on as long as it is below last, and last
abbrev pub IsTried : Bounds → ℕ → Type 0
IsTried b k = ((i : ℕ) × (k ≡ b.first + i * b.step) × (k < b.last)) ⊎ (k ≡ b.last)
