-- Lists of vectors in which each one points to one at or above it.
use Rattle.std.specs.Prelude.{◌≡◌, ℕ, ℤ, ◌<◌, ◌-◌, true, List, [], length, map, nat_lt, slice_index_or, if◌then◌else◌}
use Rattle.counter_vec.specs.Counters.{at_or_below}

-- the place to which place j points
abbrev pub over_at : List ℕ → ℕ → ℕ
over_at over j = slice_index_or over j 0

abbrev pub low_at : List (List ℤ) → ℕ → List ℤ
low_at lows j = slice_index_or lows j []

-- each place points to one that points to itself, and whose vector is at or above that of the place
pub record IsFlat (lows : List (List ℤ)) (over : List ℕ) : Type 0 where
  pub same : length over ≡ length lows
  pub within : (j : ℕ) → j < length lows → over_at over j < length lows
  pub flat : (j : ℕ) → j < length lows → over_at over (over_at over j) ≡ over_at over j
  pub above : (j : ℕ) → j < length lows → at_or_below (low_at lows j) (low_at lows (over_at over j)) ≡ true

-- a place, behind one that is taken out
abbrev pub moved_down : ℕ → ℕ → ℕ
moved_down gone j = if nat_lt gone j then j - 1 else j

-- the vectors at some places
abbrev pub picked : List (List ℤ) → List ℕ → List (List ℤ)
picked lows places = map (low_at lows) places
