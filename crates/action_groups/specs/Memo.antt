-- Notes of the trees of the edges that remain at places.
use Rattle.std.specs.Prelude.{◌≡◌, ℕ, ◌⊎◌, List, map, Vec}
use Rattle.std.specs.List.{Contains}
use Rattle.std.specs.declared.alloc.Global.{Global}
use Rattle.action_groups.specs.declared.memos.Subtree.{Subtree}
use Rattle.action_groups.specs.declared.ways.Way.{Way}

-- the tree of some edges at a place of the order: its last nodes, and the pairs of its labels
pub record Note : Type 0 where
  pub place : ℕ
  pub ways : List Way
  pub letter : ℕ
  pub first : ℕ
  pub pairs : List (ℕ × ℕ)

abbrev pub note_by : ℕ → List Way → ℕ → ℕ → List (ℕ × ℕ) → Note
note_by at edges letter_node first_node labels = record {
  place = at;
  ways = edges;
  letter = letter_node;
  first = first_node;
  pairs = labels;
}

abbrev pub note_of : ℕ → List Way → Subtree → Note
note_of at edges t = note_by at edges t.letter t.first t.pairs.items

abbrev pub notes_of : List ((ℕ × Vec Way Global) × Subtree) → List Note
notes_of = map (λ e. note_of e.0.0 e.0.1.items e.1)

-- each note was there, or is the new one
abbrev pub IsNoted : List Note → List Note → Note → Type 0
IsNoted old new n = (m : Note) → Contains new m → (m ≡ n) ⊎ Contains old m
