-- Places made from lists: of labels, and of nodes.
use Rattle.std.specs.Prelude.{◌≡◌, ℕ, ◌%◌, ◌^◌, ◌<◌, ◌≤◌, List, length, slice_get, slice_index, Some}
use Rattle.word_core.specs.declared.branches.Branch.{Branch}
use Rattle.word_core.specs.Tree.{label_at, next_label}
use Rattle.letter_tree.specs.Diagram.{TreeData, top}

-- a place with the labels of a list at the valuations whose bits below the signal are these
pub record IsListed (t : TreeData) (labels : List ℕ) (signal prefix place : ℕ) : Type 0 where
  pub within : place < length t.nodes
  pub later : signal ≤ top t.width (slice_get t.nodes place)
  pub label : (bits : ℕ) → bits < 2 ^ t.width → bits % 2 ^ signal ≡ prefix → label_at t.nodes place bits ≡ slice_index labels bits

-- the places of a table with the labels of the first nodes of a list
pub record IsTaken (t : TreeData) (nodes : List Branch) (places : List ℕ) : Type 0 where
  pub within : (i : ℕ) → i < length places → slice_index places i < length t.nodes
  pub label : (i bits : ℕ) → i < length places → label_at t.nodes (slice_index places i) bits ≡ label_at nodes i bits

-- a place of a table with the labels of a node, whose parts are at these places
pub record IsNodeOf (t : TreeData) (node : Branch) (places : List ℕ) (place : ℕ) : Type 0 where
  pub within : place < length t.nodes
  pub label : (bits : ℕ) → label_at t.nodes place bits ≡ next_label (λ i. label_at t.nodes (slice_index places i) bits) bits (Some node)
