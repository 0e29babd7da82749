-- Unions of covers, and the covers that are kept among them.
use Rattle.std.specs.Prelude.{◌≡◌, ℕ, ◌<◌, true, Bool, ◌&&◌, ◌||◌, if◌then◌else◌, List, [], ◌∷◌, ◌++◌, All, fold, map, slice_index_or}
use Rattle.std.specs.List.{Contains, filter, list_any}
use Rattle.std.specs.List.Sorted.{IsNonDecreasingBy}
use Rattle.cover_sets.specs.declared.bit_covers.BitCover.{BitCover}
use Rattle.cover_sets.specs.declared.reductions.Union.{Union}
use Rattle.cover_sets.specs.Bits.{set_of, sets_of, size_of}
use Rattle.cover_sets.specs.Covers.{CoverSets, both, consistent, no_demand, part_of}
use Rattle.cover_sets.specs.Numbers.{has}

-- the three sets of each cover
abbrev pub covers_of : List BitCover → List CoverSets
covers_of xs = map sets_of xs

abbrev pub AreConsistent : List (ℕ × ℕ) → List BitCover → Type 0
AreConsistent pairs xs = All (λ c. consistent pairs (set_of c.literals) ≡ true) xs

-- one set has a number of which the other has the opposite
abbrev pub clashes : List (ℕ × ℕ) → ℕ → ℕ → Bool
clashes pairs x y = list_any (λ p. (has x p.0 && has y p.1) || (has x p.1 && has y p.0)) pairs

-- a place in a list of n covers, and one in a list of m
abbrev pub AreUnions : ℕ → ℕ → List Union → Type 0
AreUnions n m unions = All (λ u. (u.left < n) × (u.right < m)) unions

abbrev pub union_at : List CoverSets → List CoverSets → Union → CoverSets
union_at xs ys u = both (slice_index_or xs u.left no_demand) (slice_index_or ys u.right no_demand)

abbrev pub HaveSizes : List CoverSets → List CoverSets → List Union → Type 0
HaveSizes xs ys unions = All (λ u. u.size ≡ size_of (union_at xs ys u)) unions

abbrev pub all_consistent : List (ℕ × ℕ) → List CoverSets → List CoverSets
all_consistent pairs list = filter (λ c. consistent pairs c.literals) list

-- the consistent unions of the cover at a place with each of the other list
abbrev pub unions_with : List (ℕ × ℕ) → List CoverSets → List CoverSets → ℕ → List CoverSets
unions_with pairs xs ys left = all_consistent pairs (map (both (slice_index_or xs left no_demand)) ys)

-- the smaller ones first
abbrev pub AreBySize : List CoverSets → Type 0
AreBySize list = IsNonDecreasingBy size_of list

-- a cover is kept where it contains none that was kept
abbrev pub kept_after : List CoverSets → CoverSets → List CoverSets
kept_after kept c = if list_any (λ k. part_of k c) kept then kept else kept ++ c ∷ []

-- each cover once
abbrev pub AreDifferent : List CoverSets → Type 0
AreDifferent [] = Unit {0}
AreDifferent (c ∷ cs) = (Contains cs c → ⊥) × AreDifferent cs

unfoldable pub kept_from : List CoverSets → List CoverSets → List CoverSets
kept_from kept list = fold kept_after kept list
