-- A decision tree whose labels are replaced and whose first signals are fixed.
use Rattle.std.specs.Prelude.{ℕ, ◌<◌, ◌-◌, List, length, slice_index, slice_index_or, nat_lt, if◌then◌else◌}
use Rattle.word_core.specs.declared.branches.Branch.{Branch}
use Rattle.word_core.specs.declared.branches.Branch.TheVariants.{Leaf, Split}
use Rattle.word_core.specs.Tree.{side}

-- a node behind those that it leads to, which tests a signal below the width
abbrev pub NodeFits : ℕ → ℕ → Branch → Type 0
NodeFits width place (Leaf label) = Unit {0}
NodeFits width place (Split signal low high) = (signal < width) × (low < place) × (high < place)

-- each node stands so
abbrev pub NodesFit : ℕ → List Branch → Type 0
NodesFit width nodes = (k : ℕ) (d : Branch) → k < length nodes → NodeFits width k (slice_index_or nodes k d)

-- the node that takes the place of one, where those of the earlier ones are known
abbrev pub restricted_to : List ℕ → ℕ → ℕ → List Branch → Branch → Branch
restricted_to labels width own out (Leaf label) = Leaf (slice_index labels label)
restricted_to labels width own out (Split signal low high) =
    (if nat_lt signal width then slice_index_or out (side signal low high own) (Leaf 0) else Split (signal - width) low high)
