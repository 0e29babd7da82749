-- Cubes from a signal on.
use Rattle.std.specs.Prelude.{◌≡◌, ℕ, ◌/◌, ◌^◌, ◌<◌, ◌≤◌, Bool, nat_eq, bit_and, length, slice_get, if◌then◌else◌}
use Rattle.word_core.specs.declared.cubes.Cube.{Cube}
use Rattle.word_core.specs.Tree.{label_at}
use Rattle.letter_tree.specs.Diagram.{TreeData, top}

-- a cube holds the bits from a signal on
abbrev pub holds_from : Cube → ℕ → ℕ → Bool
holds_from c signal bits = nat_eq (bit_and (bits / 2 ^ signal) (c.care / 2 ^ signal)) (c.want / 2 ^ signal)

-- a place with one label where the cube holds from the signal on, and another elsewhere
pub record IsCubed (t : TreeData) (c : Cube) (yes no signal place : ℕ) : Type 0 where
  pub within : place < length t.nodes
  pub later : signal ≤ top t.width (slice_get t.nodes place)
  pub label : (bits : ℕ) → label_at t.nodes place bits ≡ (if holds_from c signal bits then yes else no)
