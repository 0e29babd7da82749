-- Diagrams: lists of nodes whose parts stand earlier and test later signals.
use Rattle.std.specs.Prelude.{◌≡◌, ◌≢◌, ℕ, ◌+◌, ◌-◌, ◌<◌, ◌≤◌, List, ◌++◌, length, slice_get, Option, Some, None}
use Rattle.word_core.specs.declared.branches.Branch.{Branch}
use Rattle.word_core.specs.declared.branches.Branch.TheVariants.{Leaf, Split}
use Rattle.word_core.specs.Tree.{label_at, side}

-- the signal that a node tests, and the width where it is a leaf
abbrev pub top : ℕ → Option Branch → ℕ
top width None = width
top width (Some (Leaf label)) = width
top width (Some (Split signal low high)) = signal

-- a split at a place: a signal of the width, and two different earlier parts that test later signals
pub record IsFork (width : ℕ) (nodes : List Branch) (place signal low high : ℕ) : Type 0 where
  pub signal_in : signal < width
  pub low_earlier : low < place
  pub high_earlier : high < place
  pub low_later : signal < top width (slice_get nodes low)
  pub high_later : signal < top width (slice_get nodes high)
  pub differ : low ≢ high

abbrev pub IsNode : ℕ → List Branch → ℕ → Option Branch → Type 0
IsNode width nodes place None = Unit {0}
IsNode width nodes place (Some (Leaf label)) = Unit {0}
IsNode width nodes place (Some (Split signal low high)) = IsFork width nodes place signal low high

pub record IsDiagram (width : ℕ) (nodes : List Branch) : Type 0 where
  pub narrow : width ≤ 64
  pub node : (place : ℕ) → IsNode width nodes place (slice_get nodes place)

-- a table, or a tree, which is one with some node
pub record TreeData : Type 0 where
  pub width : ℕ
  pub nodes : List Branch

-- no two nodes are equal
abbrev pub AreDistinct : List Branch → Type 0
AreDistinct nodes = (i j : ℕ) → i < j → j < length nodes → slice_get nodes i ≢ slice_get nodes j

-- a walk from a place, when the nodes before `from` have been met, meets those up to another place in their order: those of the
-- part for 0, those of the part for 1, then the node
pub data Visits (nodes : List Branch) : ℕ → ℕ → ℕ → Type 0 where
  known : (from place : ℕ) → place < from → Visits nodes from place from
  leaf : (place label : ℕ) → slice_get nodes place ≡ Some (Leaf label) → Visits nodes place place (place + 1)
  fork : (from middle place signal low high : ℕ) → slice_get nodes place ≡ Some (Split signal low high)
      → Visits nodes from low middle → Visits nodes middle high place → Visits nodes from place (place + 1)

-- a tree of the width, with some node: its nodes differ, and stand in the order of a walk from the last one
pub record IsRooted (width : ℕ) (nodes : List Branch) : Type 0 where
  pub some : 0 < length nodes
  pub diagram : IsDiagram width nodes
  pub distinct : AreDistinct nodes
  pub visits : Visits nodes 0 (length nodes - 1) (length nodes)

-- some nodes were put behind those of a table
pub record Grows (old new : TreeData) : Type 0 where
  pub width : new.width ≡ old.width
  pub added : List Branch
  pub nodes : new.nodes ≡ old.nodes ++ added
  pub diagram : IsDiagram new.width new.nodes

-- a label that some leaf has
abbrev pub HasLeaf : List Branch → ℕ → Type 0
HasLeaf nodes label = (place : ℕ) × (slice_get nodes place ≡ Some (Leaf label))

-- a signal with two places of a table whose nodes test later signals
pub record CanFork (t : TreeData) (signal low high : ℕ) : Type 0 where
  pub signal_in : signal < t.width
  pub low_in : low < length t.nodes
  pub high_in : high < length t.nodes
  pub low_later : signal < top t.width (slice_get t.nodes low)
  pub high_later : signal < top t.width (slice_get t.nodes high)

-- a place of a table whose node tests no signal below this one, and goes on at low or high by the signal
pub record IsForked (t : TreeData) (signal low high place : ℕ) : Type 0 where
  pub within : place < length t.nodes
  pub later : signal ≤ top t.width (slice_get t.nodes place)
  pub label : (bits : ℕ) → label_at t.nodes place bits ≡ label_at t.nodes (side signal low high bits) bits
