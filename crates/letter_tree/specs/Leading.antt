-- The least valuation with a label.
use Rattle.std.specs.Prelude.{◌≡◌, ◌≢◌, ℕ, ◌+◌, ◌%◌, ◌^◌, ◌<◌, ◌≤◌, ◌⊎◌, List, slice_get, Option, Some, None}
use Rattle.word_core.specs.declared.branches.Branch.{Branch}
use Rattle.word_core.specs.declared.branches.Branch.TheVariants.{Leaf, Split}
use Rattle.word_core.specs.Tree.{label_at, label_of}
use Rattle.letter_tree.specs.Diagram.{top}

-- the least valuation with a label, or none where no valuation has it
abbrev pub IsLeast : ℕ → List Branch → ℕ → Option ℕ → Type 0
IsLeast width nodes label None = (bits : ℕ) → bits < 2 ^ width → label_of nodes bits ≢ label
IsLeast width nodes label (Some least) = (least < 2 ^ width) × (label_of nodes least ≡ label) × ((bits : ℕ) → bits < least → label_of nodes bits ≢ label)

-- some valuation has the label and, from the signal on, these bits
abbrev pub Leads : List Branch → ℕ → ℕ → ℕ → Type 0
Leads nodes signal bits label = (low : ℕ) × (low < 2 ^ signal) × (label_of nodes (bits + low) ≡ label)

-- a node tests no signal below this one, and these bits lead from it to the label
abbrev pub EndsIn : ℕ → List Branch → ℕ → ℕ → ℕ → ℕ → Type 0
EndsIn width nodes signal bits label place = (signal ≤ top width (slice_get nodes place)) × (label_at nodes place bits ≡ label)

-- a node tests a signal below this one, and these bits lead from one of its parts, which doesn't, to the label
abbrev pub PartEndsIn : ℕ → List Branch → ℕ → ℕ → ℕ → Option Branch → Type 0
PartEndsIn width nodes signal bits label None = ⊥
PartEndsIn width nodes signal bits label (Some (Leaf l)) = ⊥
PartEndsIn width nodes signal bits label (Some (Split tested low high)) = (tested < signal) × (EndsIn width nodes signal bits label low ⊎ EndsIn width nodes signal bits label high)

-- a valuation that some one with the label begins with from a signal on, and below which none has it
pub record IsBegun (width : ℕ) (nodes : List Branch) (label signal found : ℕ) : Type 0 where
  pub narrow : signal ≤ width
  pub within : found + 2 ^ signal ≤ 2 ^ width
  pub whole : found % 2 ^ signal ≡ 0
  pub leads : Leads nodes signal found label
  pub none : (bits : ℕ) → bits < found → label_of nodes bits ≢ label
