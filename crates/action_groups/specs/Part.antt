-- Nodes of trees over some signals, and pairs of a valuation and a number.
use Rattle.std.specs.Prelude.{ℕ, ◌<◌, ◌^◌, List, length, slice_index_or}
use Rattle.std.specs.List.{All}
use Rattle.word_core.specs.declared.branches.Branch.{Branch}
use Rattle.word_core.specs.declared.branches.Branch.TheVariants.{Leaf, Split}

-- a node at a place: a label below the count, or a signal below the width with two earlier places
abbrev pub IsNodeOver : ℕ → ℕ → ℕ → Branch → Type 0
IsNodeOver width count place (Leaf label) = label < count
IsNodeOver width count place (Split signal low high) = (signal < width) × (low < place) × (high < place)

abbrev pub AreNodes : ℕ → ℕ → List Branch → Type 0
AreNodes width count nodes = (place : ℕ) (d : Branch) → place < length nodes → IsNodeOver width count place (slice_index_or nodes place d)

-- each a valuation of so many signals and a number below the count
abbrev pub ArePairs : ℕ → ℕ → List (ℕ × ℕ) → Type 0
ArePairs width count = All (λ p. (p.0 < 2 ^ width) × (p.1 < count))
