-- Edges up to the classes of their ends.
use Rattle.std.specs.Prelude.{◌≡◌, ℕ, ◌<◌, ◌⊎◌, Bool, true, false, List, [], ◌∷◌, ◌++◌, length, slice_index_or}
use Rattle.std.specs.List.{Contains}
use Rattle.word_core.specs.declared.automata.Edge.{Edge}
use Rattle.word_core.specs.declared.cubes.Cube.{Cube}
use Rattle.word_core.specs.Automaton.{AutomatonData, edges_at}
use Rattle.word_core.specs.Cube.{holds}

-- a class, the number of signals that the cube cares for, whether there is no mark, and the cube
abbrev pub Way : Type 0
Way = ℕ × ℕ × Bool × Cube

-- the class of a state
abbrev pub class_at : List ℕ → ℕ → ℕ
class_at of q = slice_index_or of q 0

-- the edge to the class of the end
abbrev pub to_class : List ℕ → Edge → Edge
to_class of e = record { cube = e.cube; next = class_at of e.next; marked = e.marked }

-- a way leads to the class of the edge's end by the edge's cube, with its mark
pub record IsWayOf (of : List ℕ) (e : Edge) (w : Way) : Type 0 where
  pub class : w.0 ≡ class_at of e.next
  pub marked : w.2 ≡ true → e.marked ≡ false
  pub unmarked : w.2 ≡ false → e.marked ≡ true
  pub cube : w.3 ≡ e.cube

-- a way absorbs another one: it leads to the same class, holds each letter that the other holds, and has a mark where
-- the other has one
pub record Absorbs (w v : Way) : Type 0 where
  pub class : w.0 ≡ v.0
  pub marked : w.2 ≡ true → v.2 ≡ true
  pub cube : (x : ℕ) → holds v.3 x ≡ true → holds w.3 x ≡ true

abbrev pub IsAbsorbed : List Way → Way → Type 0
IsAbsorbed ways v = (w : Way) × Contains ways w × Absorbs w v

-- the same of an edge, up to classes
pub record Covers (of : List ℕ) (wide narrow : Edge) : Type 0 where
  pub class : class_at of wide.next ≡ class_at of narrow.next
  pub marked : narrow.marked ≡ true → wide.marked ≡ true
  pub cube : (x : ℕ) → holds narrow.cube x ≡ true → holds wide.cube x ≡ true

-- each edge of the first state is covered by one of the second
abbrev pub Within : AutomatonData → List ℕ → ℕ → ℕ → Type 0
Within a of s t = (e : Edge) → Contains (edges_at a s) e → (f : Edge) × Contains (edges_at a t) f × Covers of f e

-- the ways of a state: one for some edge each, and for each edge one that is no narrower
pub record AreWays (a : AutomatonData) (of : List ℕ) (s : ℕ) (ways : List Way) : Type 0 where
  pub all : (e : Edge) (v : Way) → Contains (edges_at a s) e → IsWayOf of e v → IsAbsorbed ways v
  pub only : (w : Way) → Contains ways w → (e : Edge) × Contains (edges_at a s) e × IsWayOf of e w

-- a class before, and ways
abbrev pub Kind : Type 0
Kind = ℕ × List Way

-- the number of a kind is its place in a list, at whose end it is put where it is new
abbrev pub IsNumberOf : List Kind → List Kind → Kind → ℕ → Type 0
IsNumberOf old new kind n =
    ((new ≡ old) × (n < length old) × (slice_index_or old n kind ≡ kind)) ⊎ ((new ≡ old ++ kind ∷ []) × (n ≡ length old))

-- a way for each edge, in order
pub record AreWaysOf (of : List ℕ) (edges : List Edge) (ways : List Way) : Type 0 where
  pub count : length ways ≡ length edges
  pub each : (k : ℕ) (e : Edge) (w : Way) → k < length edges → IsWayOf of (slice_index_or edges k e) (slice_index_or ways k w)
