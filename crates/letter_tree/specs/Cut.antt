-- A tree cut after its first signals.
use Rattle.std.specs.Prelude.{◌≡◌, ◌≢◌, ℕ, ◌+◌, ◌-◌, ◌/◌, ◌^◌, ◌<◌, ◌≤◌, List, [], ◌∷◌, length, slice_get, slice_index, slice_index_or, Some, if◌then◌else◌, nat_lt}
use Rattle.word_core.specs.declared.branches.Branch.{Branch}
use Rattle.word_core.specs.declared.branches.Branch.TheVariants.{Leaf, Split}
use Rattle.word_core.specs.Tree.{label_at, label_of}
use Rattle.letter_tree.specs.Diagram.{TreeData, IsRooted, top}

-- a node that tests a signal below the width, and else a leaf with its place
abbrev pub stopped : ℕ → ℕ → Branch → Branch
stopped width place (Leaf label) = Leaf place
stopped width place (Split signal low high) = if nat_lt signal width then Split signal low high else Leaf place

abbrev pub all_stopped : ℕ → ℕ → List Branch → List Branch
all_stopped width place [] = []
all_stopped width place (n ∷ ns) = stopped width place n ∷ all_stopped width (place + 1) ns

-- a node with another label
abbrev pub relabelled : List ℕ → Branch → Branch
relabelled numbers (Leaf label) = Leaf (slice_index numbers label)
relabelled numbers (Split signal low high) = Split signal low high

-- a place behind the first signals
pub record IsEnd (nodes : List Branch) (whole width place : ℕ) : Type 0 where
  pub within : place < length nodes
  pub above : width ≤ top whole (slice_get nodes place)

-- a tree over the first signals, whose labels are the places to which they lead
pub record IsFront (nodes : List Branch) (whole width : ℕ) (out : List Branch) : Type 0 where
  pub rooted : IsRooted width out
  pub ends : (place label : ℕ) → slice_get out place ≡ Some (Leaf label) → IsEnd nodes whole width label
  pub label : (bits : ℕ) → label_at nodes (label_of out bits) bits ≡ label_of nodes bits

-- a label in the list of ends
abbrev pub end_at : List (ℕ × ℕ) → ℕ → ℕ
end_at ends i = (slice_index_or ends i (0, 0)).1

-- a tree's labels are places in the list of another tree's
abbrev pub ArePlaced : List (ℕ × ℕ) → List Branch → List Branch → Type 0
ArePlaced ends out front = (bits : ℕ) → end_at ends (label_of front bits) ≡ label_of out bits

abbrev pub no_tree : TreeData
no_tree = record { width = 0; nodes = [] }

-- the label of the function with a number
abbrev pub rest_label : List TreeData → ℕ → ℕ → ℕ
rest_label rests number bits = label_of (slice_index_or rests number no_tree).nodes bits

-- no two functions of the other signals are one; each one's number stands at some valuation of the first signals, and those of the
-- earlier ones stand before
pub record AreNumbered (whole width : ℕ) (front : List Branch) (rests : List TreeData) : Type 0 where
  pub differ : (i j : ℕ) → i < j → j < length rests → (bits : ℕ) × (bits < 2 ^ (whole - width)) × (rest_label rests i bits ≢ rest_label rests j bits)
  pub occur : (i : ℕ) → i < length rests → (bits : ℕ) × (bits < 2 ^ width) × (label_of front bits ≡ i)
  pub order : (i j bits : ℕ) → i < j → label_of front bits ≡ j → (b : ℕ) × (b < bits) × (label_of front b ≡ i)

-- the first signals lead to the number of a function of the others, and the two together to a valuation's label
abbrev pub IsSplit : ℕ → List Branch → List Branch → List TreeData → Type 0
IsSplit width nodes front rests = (bits : ℕ) → rest_label rests (label_of front bits) (bits / 2 ^ width) ≡ label_of nodes bits
