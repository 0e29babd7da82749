-- An automaton whose states are classes of the states of another one.
use Rattle.std.specs.Prelude.{◌≡◌, ℕ, ◌<◌, true, List, length, option_map}
use Rattle.std.specs.List.{Contains}
use Rattle.word_core.specs.declared.automata.Edge.{Edge}
use Rattle.word_core.specs.Automaton.{AutomatonData, edges_at}
use Rattle.word_core.specs.Cube.{holds}
use Rattle.nba_quotient.specs.Ways.{class_at}

-- an edge holds each letter that another one holds, and is marked where that is
pub record Does (wide narrow : Edge) : Type 0 where
  pub marked : narrow.marked ≡ true → wide.marked ≡ true
  pub cube : (x : ℕ) → holds narrow.cube x ≡ true → holds wide.cube x ≡ true

-- the first state of a class: the states before it are of classes before
pub record IsFirstOf (of : List ℕ) (c s : ℕ) : Type 0 where
  pub within : s < length of
  pub class : class_at of s ≡ c
  pub before : (t : ℕ) → t < s → class_at of t < c

-- each state has a class, and the classes are in the order of their first states; what an edge of a state does, an edge
-- of its class does too, which leads to the class of the end; and what an edge of a class does, an edge of each of its states does
pub record IsFolding (a : AutomatonData) (of : List ℕ) (q : AutomatonData) : Type 0 where
  pub each : length of ≡ length a.states
  pub classes : (s : ℕ) → s < length a.states → class_at of s < length q.states
  pub firsts : (c : ℕ) → c < length q.states → (s : ℕ) × IsFirstOf of c s
  pub init : q.init ≡ option_map (class_at of) a.init
  pub begins : (s : ℕ) (e : Edge) → s < length a.states → Contains (edges_at a s) e
      → (f : Edge) × Contains (edges_at q (class_at of s)) f × (f.next ≡ class_at of e.next) × Does f e
  pub ends : (s : ℕ) (f : Edge) → s < length a.states → Contains (edges_at q (class_at of s)) f
      → (e : Edge) × Contains (edges_at a s) e × (class_at of e.next ≡ f.next) × Does e f
