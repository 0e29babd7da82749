-- Two diagrams joined place by place.
use Rattle.std.specs.Prelude.{◌≡◌, ℕ, ◌+◌, ◌<◌, ◌≤◌, List, length, slice_get, Some}
use Rattle.word_core.specs.declared.branches.Branch.{Branch}
use Rattle.word_core.specs.declared.branches.Branch.TheVariants.{Leaf}
use Rattle.word_core.specs.Tree.{label_at, side}
use Rattle.letter_tree.specs.declared.joins.Jointly.{Jointly}
use Rattle.letter_tree.specs.declared.joins.Jointly.TheVariants.{Labels, Parts}
use Rattle.letter_tree.specs.Diagram.{TreeData, top}
use Rattle.letter_tree.specs.Memo.{Notes, noted}

-- a signal with the parts of two nodes by it, of which one goes further down
pub record HasParts (a b : List Branch) (width x y signal : ℕ) (low high : ℕ × ℕ) : Type 0 where
  pub signal_in : signal < width
  pub first : (s : ℕ) → s ≤ top width (slice_get a x) → s ≤ top width (slice_get b y) → s ≤ signal
  pub before_a : signal ≤ top width (slice_get a x)
  pub before_b : signal ≤ top width (slice_get b y)
  pub low_a : low.0 < length a
  pub low_b : low.1 < length b
  pub high_a : high.0 < length a
  pub high_b : high.1 < length b
  pub low_down : low.0 + low.1 < x + y
  pub high_down : high.0 + high.1 < x + y
  pub low_later_a : signal < top width (slice_get a low.0)
  pub low_later_b : signal < top width (slice_get b low.1)
  pub high_later_a : signal < top width (slice_get a high.0)
  pub high_later_b : signal < top width (slice_get b high.1)
  pub label_a : (bits : ℕ) → label_at a x bits ≡ label_at a (side signal low.0 high.0 bits) bits
  pub label_b : (bits : ℕ) → label_at b y bits ≡ label_at b (side signal low.1 high.1 bits) bits

-- two leaves, or such a signal
abbrev pub AreJointly : List Branch → List Branch → ℕ → ℕ → ℕ → Jointly → Type 0
AreJointly a b width x y (Labels l m) = (slice_get a x ≡ Some (Leaf l)) × (slice_get b y ≡ Some (Leaf m))
AreJointly a b width x y (Parts signal low high) = HasParts a b width x y signal low high

-- a place of a table whose labels are related to those of two places
pub record IsJoin (R : ℕ → ℕ → ℕ → Type 0) (a b : List Branch) (t : TreeData) (x y place : ℕ) : Type 0 where
  pub within : place < length t.nodes
  pub later : (s : ℕ) → s ≤ t.width → s ≤ top t.width (slice_get a x) → s ≤ top t.width (slice_get b y) → s ≤ top t.width (slice_get t.nodes place)
  pub label : (bits : ℕ) → R (label_at a x bits) (label_at b y bits) (label_at t.nodes place bits)

pub record IsJoining (R : ℕ → ℕ → ℕ → Type 0) (a b : List Branch) (t : TreeData) (notes : Notes) : Type 0 where
  pub known : (x y place : ℕ) → noted notes x y ≡ Some place → IsJoin R a b t x y place
