-- A function split by signals into cubes.
use Rattle.std.specs.Prelude.{ℕ, zero, suc, ◌+◌, ◌-◌, ◌^◌, Bool, false, true, List, [], ◌∷◌, ◌++◌, length, slice_get, Option, Some, None, if◌then◌else◌}
use Rattle.word_core.specs.declared.branches.Branch.{Branch}
use Rattle.word_core.specs.declared.branches.Branch.TheVariants.{Leaf, Split}
use Rattle.word_core.specs.declared.cubes.Cube.{Cube}
use Rattle.word_core.specs.Cube.{holds}

-- the cube of all valuations
abbrev pub all_cube : Cube
all_cube = record { care = 0; want = 0 }

-- a cube that also fixes a signal above all for which it cares
abbrev pub fixed : Cube → ℕ → Bool → Cube
fixed c signal value = record { care = c.care + 2 ^ signal; want = (if value then c.want + 2 ^ signal else c.want) }

-- one step: a leaf's label for the cube, or the lines of the part for 0 and then those of the part for 1
abbrev pub next_lines : (ℕ → Cube → List (Cube × ℕ)) → Cube → Option Branch → List (Cube × ℕ)
next_lines lines c None = []
next_lines lines c (Some (Leaf label)) = (c, label) ∷ []
next_lines lines c (Some (Split signal low high)) = lines low (fixed c signal false) ++ lines high (fixed c signal true)

-- the lines that so many steps give for a node's function inside a cube
abbrev pub lines_from : ℕ → List Branch → ℕ → Cube → List (Cube × ℕ)
lines_from zero nodes place c = []
lines_from (suc n) nodes place c = next_lines (lines_from n nodes) c (slice_get nodes place)

unfoldable pub lines_at : List Branch → ℕ → Cube → List (Cube × ℕ)
lines_at nodes place c = lines_from (suc place) nodes place c

-- the splitting of a tree's function
abbrev pub splitting : List Branch → List (Cube × ℕ)
splitting nodes = lines_at nodes (length nodes - 1) all_cube

-- the label of the first cube that holds a valuation
abbrev pub pattern_of : List (Cube × ℕ) → ℕ → Option ℕ
pattern_of [] bits = None
pattern_of (p ∷ ps) bits = if holds p.0 bits then Some p.1 else pattern_of ps bits
