-- Vectors of numbers, lane by lane.
use Rattle.std.specs.Prelude.{ℕ, ◌<◌, ◌≡◌, ℤ, pos, negsuc, ◌+ℤ◌, ◌-ℤ◌, ◌≤ℤ◌, List, length, slice_index_or, Bool, if◌then◌else◌, int_le}
use Rattle.std.specs.Int.{int_max, int_min}

-- the number of the lane p
abbrev pub lane : List ℤ → ℕ → ℤ
lane v p = slice_index_or v p (pos 0)

-- equal length, and each lane of a is at most that of b
pub record IsAtOrBelow (a b : List ℤ) : Type 0 where
  pub same_length : length a ≡ length b
  pub lanes : (p : ℕ) → p < length a → lane a p ≤ℤ lane b p

-- each lane holds
abbrev pub EachLane : List ℤ → (ℤ → Type 0) → Type 0
EachLane v P = (p : ℕ) → p < length v → P (lane v p)

-- a row's number leads on where it is at least 1
abbrev pub leads : ℤ → Bool
leads r = int_le (pos 1) r

-- what a row's number gives its lane from a lane with this value, the old number being x
abbrev pub raised : ℤ → ℤ → ℤ → ℤ → ℤ
raised k value r x = if leads r then int_max x (int_min (k +ℤ pos 1) ((value +ℤ r) -ℤ pos 1)) else x

-- the most that a lane may have whose row has this number at a lane with s
abbrev pub allowed : ℤ → ℤ → ℤ → ℤ
allowed k r s = if leads r then int_max (negsuc 0) (s -ℤ (r -ℤ pos 1)) else k

-- the numbers of a row
abbrev pub IsRow : List ℤ → Type 0
IsRow row = EachLane row (λ r. (pos 0 ≤ℤ r) × (r ≤ℤ pos 2))

abbrev pub LanesWithin : List ℤ → ℤ → Type 0
LanesWithin v high = EachLane v (λ x. (negsuc 0 ≤ℤ x) × (x ≤ℤ high))
