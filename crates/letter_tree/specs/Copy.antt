-- Copies of the nodes that a root reaches, with smaller numbers of signals.
use Rattle.std.specs.Prelude.{◌≡◌, ℕ, ◌+◌, ◌-◌, ◌/◌, ◌^◌, ◌<◌, List, [], ◌∷◌, ◌++◌, length, slice_get, slice_set, Option, Some}
use Rattle.word_core.specs.declared.branches.Branch.{Branch}
use Rattle.word_core.specs.declared.branches.Branch.TheVariants.{Leaf}
use Rattle.word_core.specs.Tree.{label_at, label_of}
use Rattle.letter_tree.specs.Diagram.{IsDiagram, IsRooted, HasLeaf, top}

-- the node at a place of `out` is that at i, with each signal's number made smaller by floor
pub record IsCopy (nodes : List Branch) (width floor : ℕ) (out : List Branch) (i place : ℕ) : Type 0 where
  pub within : place < length out
  pub top : top (width - floor) (slice_get out place) + floor ≡ top width (slice_get nodes i)
  pub label : (bits : ℕ) → label_at out place (bits / 2 ^ floor) ≡ label_at nodes i bits

-- each leaf of `out` has a label of the nodes
abbrev pub LeavesFrom : List Branch → List Branch → Type 0
LeavesFrom nodes out = (place label : ℕ) → slice_get out place ≡ Some (Leaf label) → HasLeaf nodes label

-- `out` is a diagram with the copies that `places` names, each once
pub record IsCopying (nodes : List Branch) (width floor : ℕ) (out : List Branch) (places : List (Option ℕ)) : Type 0 where
  pub room : length places ≡ length nodes
  pub diagram : IsDiagram (width - floor) out
  pub copied : (i place : ℕ) → slice_get places i ≡ Some (Some place) → IsCopy nodes width floor out i place
  pub all : (place : ℕ) → place < length out → (i : ℕ) × (slice_get places i ≡ Some (Some place))
  pub single : (i j place : ℕ) → slice_get places i ≡ Some (Some place) → slice_get places j ≡ Some (Some place) → i ≡ j
  pub leaves : LeavesFrom nodes out

-- some nodes were put behind `out`, and each copy stays where it is
pub record GoesOn (out : List Branch) (places : List (Option ℕ)) (out' : List Branch) (places' : List (Option ℕ)) : Type 0 where
  pub added : List Branch
  pub nodes : out' ≡ out ++ added
  pub kept : (i place : ℕ) → slice_get places i ≡ Some (Some place) → slice_get places' i ≡ Some (Some place)

-- a node was put behind `out`, and its place noted for i
pub record IsPut (out : List Branch) (places : List (Option ℕ)) (i : ℕ) (node : Branch) (out' : List Branch) (places' : List (Option ℕ)) (place : ℕ) : Type 0 where
  pub last : place ≡ length out
  pub nodes : out' ≡ out ++ node ∷ []
  pub noted : places' ≡ slice_set places i (Some (length out))

-- a tree of the function of a node, with each signal's number made smaller by floor
pub record IsReached (nodes : List Branch) (width floor root : ℕ) (out : List Branch) : Type 0 where
  pub rooted : IsRooted (width - floor) out
  pub label : (bits : ℕ) → label_of out (bits / 2 ^ floor) ≡ label_at nodes root bits
  pub leaves : LeavesFrom nodes out
