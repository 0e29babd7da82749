-- Notes of places by pairs of places.
use Rattle.std.specs.Prelude.{◌≡◌, ℕ, ◌==◌, ◌&&◌, ◌⊎◌, List, Option, Some}
use Rattle.std.specs.Map.{lookup}

abbrev pub Notes : Type 0
Notes = List ((ℕ × ℕ) × ℕ)

-- the place that is noted for a pair
unfoldable pub noted : Notes → ℕ → ℕ → Option ℕ
noted notes x y = lookup (λ (k : ℕ × ℕ). (x == k.0) && (y == k.1)) notes

-- a note of a place was made, all others were there, and the answer is the place
pub record IsNoted (old new : Notes) (x y place answer : ℕ) : Type 0 where
  pub same : answer ≡ place
  pub others : (x' y' p : ℕ) → noted new x' y' ≡ Some p → ((x' ≡ x) × (y' ≡ y) × (p ≡ place)) ⊎ (noted old x' y' ≡ Some p)
