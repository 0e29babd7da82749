-- Decision trees as lists of nodes, in which each node stands behind those that it leads to.
use Rattle.std.specs.Prelude.{ℕ, zero, suc, ◌-◌, ◌/◌, ◌%◌, ◌<◌, ◌^◌, List, length, slice_get, Option, Some, None, ◌==◌, if◌then◌else◌}
use Rattle.word_core.specs.declared.branches.Branch.{Branch}
use Rattle.word_core.specs.declared.branches.Branch.TheVariants.{Leaf, Split}

-- a node at a place: a split names a signal below 64 and earlier places
abbrev pub IsNodeAt : ℕ → Option Branch → Type 0
IsNodeAt place None = Unit {0}
IsNodeAt place (Some (Leaf label)) = Unit {0}
IsNodeAt place (Some (Split signal low high)) = (signal < 64) × (low < place) × (high < place)

-- the trees: some node, and each at its place
pub record IsTree (nodes : List Branch) : Type 0 where
  pub some : 0 < length nodes
  pub placed : (place : ℕ) → IsNodeAt place (slice_get nodes place)

-- the part that a split's signal chooses
abbrev pub side : ℕ → ℕ → ℕ → ℕ → ℕ
side signal low high bits = if bits / 2 ^ signal % 2 == 1 then high else low

-- one step: a leaf's label, or the label from the chosen part
abbrev pub next_label : (ℕ → ℕ) → ℕ → Option Branch → ℕ
next_label label bits None = 0
next_label label bits (Some (Leaf l)) = l
next_label label bits (Some (Split signal low high)) = label (side signal low high bits)

-- the label that so many steps lead to from a place
abbrev pub label_from : ℕ → List Branch → ℕ → ℕ → ℕ
label_from zero nodes bits place = 0
label_from (suc n) nodes bits place = next_label (label_from n nodes bits) bits (slice_get nodes place)

-- the label that a valuation leads to from a place
unfoldable pub label_at : List Branch → ℕ → ℕ → ℕ
label_at nodes place bits = label_from (suc place) nodes bits place

-- the function of a tree: the label from its last node
abbrev pub label_of : List Branch → ℕ → ℕ
label_of nodes bits = label_at nodes (length nodes - 1) bits

-- a property of the label at a place
abbrev pub LabelHas : (ℕ → Type 0) → Option Branch → Type 0
LabelHas P None = Unit {0}
LabelHas P (Some (Leaf label)) = P label
LabelHas P (Some (Split signal low high)) = Unit {0}

-- every label has a property
abbrev pub AllLabels : (ℕ → Type 0) → List Branch → Type 0
AllLabels P nodes = (place : ℕ) → LabelHas P (slice_get nodes place)

-- a node tests no signal from the width on
abbrev pub TestsBelow : ℕ → Option Branch → Type 0
TestsBelow width None = Unit {0}
TestsBelow width (Some (Leaf label)) = Unit {0}
TestsBelow width (Some (Split signal low high)) = signal < width

-- all nodes test signals below the width
abbrev pub AllTestBelow : ℕ → List Branch → Type 0
AllTestBelow width nodes = (place : ℕ) → TestsBelow width (slice_get nodes place)
