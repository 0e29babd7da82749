-- Vectors of counters: their partial order lane by lane, and their lexicographic order.
use Rattle.std.specs.Prelude.{ℕ, ℤ, negsuc, ◌<◌, ◌≤ℤ◌, ◌+ℤ◌, Bool, true, false, ◌&&◌, List, [], ◌∷◌, length, map, int_le}
use Rattle.std.specs.Int.{int_min}
use Rattle.std.specs.Ordering.{int_cmp}
use Rattle.std.specs.Cmp.Lexicographic.{slice_cmp}
use Rattle.std.specs.declared.cmp.Ordering.{Ordering}
use Rattle.game_form.specs.Vector.{lane}

-- equal length, and each number at most the other's
abbrev pub at_or_below : List ℤ → List ℤ → Bool
at_or_below [] [] = true
at_or_below [] (y ∷ v) = false
at_or_below (x ∷ u) [] = false
at_or_below (x ∷ u) (y ∷ v) = int_le x y && at_or_below u v

-- lane by lane from the front; a vector comes before each longer one that it begins
abbrev pub lexicographic : List ℤ → List ℤ → Ordering
lexicographic u v = slice_cmp int_cmp u v

-- the smaller number of each lane
abbrev pub met : List ℤ → List ℤ → List ℤ
met [] v = []
met (x ∷ u) [] = []
met (x ∷ u) (y ∷ v) = int_min x y ∷ met u v

-- each number more by a number
abbrev pub lifted : ℤ → List ℤ → List ℤ
lifted by v = map (λ x. x +ℤ by) v

-- each number is at least -1
abbrev pub AreCounters : List ℤ → Type 0
AreCounters v = (p : ℕ) → p < length v → negsuc 0 ≤ℤ lane v p
