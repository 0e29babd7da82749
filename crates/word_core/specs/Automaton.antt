-- Automata with marked edges.
use Rattle.std.specs.Prelude.{ℕ, ◌<◌, ◌≤◌, ◌^◌, List, [], length, slice_index_or, Option, IfSome}
use Rattle.std.specs.List.{All}
use Rattle.word_core.specs.declared.automata.Edge.{Edge}
use Rattle.word_core.specs.Cube.{IsCube}

pub record AutomatonData : Type 0 where
  pub signals : ℕ
  pub states : List (List Edge)
  pub init : Option ℕ

-- the edges that leave a state
abbrev pub edges_at : AutomatonData → ℕ → List Edge
edges_at a q = slice_index_or a.states q []

-- an edge over so many signals, which leads to one of so many states
abbrev pub IsEdge : ℕ → ℕ → Edge → Type 0
IsEdge signals count e = IsCube signals e.cube × (e.next < count)

-- the automata: at most 64 signals, fewer than 2^32 states, and edges and init within them
pub record IsAutomaton (a : AutomatonData) : Type 0 where
  pub narrow : a.signals ≤ 64
  pub counted : length a.states < 2 ^ 32
  pub ranged : All (All (IsEdge a.signals (length a.states))) a.states
  pub begins : IfSome a.init (λ q. q < length a.states)
