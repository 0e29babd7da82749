-- The choice of one of two places by a signal.
use Rattle.std.specs.Prelude.{◌≡◌, ℕ, ◌/◌, ◌%◌, ◌^◌, ◌==◌, ◌<◌, ◌≤◌, Bool, List, length, slice_get, Some}
use Rattle.word_core.specs.declared.branches.Branch.{Branch}
use Rattle.word_core.specs.Tree.{label_at, side}
use Rattle.letter_tree.specs.Diagram.{TreeData, top}
use Rattle.letter_tree.specs.Memo.{Notes, noted}

-- where a node goes on by a signal's value
pub record IsPart (nodes : List Branch) (width signal at : ℕ) (value : Bool) (place : ℕ) : Type 0 where
  pub within : place < length nodes
  pub later : signal < top width (slice_get nodes place)
  pub label : (bits : ℕ) → (bits / 2 ^ signal % 2 == 1) ≡ value → label_at nodes at bits ≡ label_at nodes place bits

-- a place of a table with the label of x where the signal is 0, and that of y where it is 1
pub record IsChoice (t : TreeData) (signal x y place : ℕ) : Type 0 where
  pub within : place < length t.nodes
  pub later : (s : ℕ) → s ≤ signal → s ≤ top t.width (slice_get t.nodes x) → s ≤ top t.width (slice_get t.nodes y) → s ≤ top t.width (slice_get t.nodes place)
  pub label : (bits : ℕ) → label_at t.nodes place bits ≡ label_at t.nodes (side signal x y bits) bits

pub record IsChoosing (t : TreeData) (signal : ℕ) (notes : Notes) : Type 0 where
  pub low_in : (x y place : ℕ) → noted notes x y ≡ Some place → x < length t.nodes
  pub high_in : (x y place : ℕ) → noted notes x y ≡ Some place → y < length t.nodes
  pub known : (x y place : ℕ) → noted notes x y ≡ Some place → IsChoice t signal x y place
