-- The live states of an automaton, and the states that its first one reaches.
use Rattle.std.specs.Prelude.{◌≡◌, ℕ, ◌<◌, List, [], ◌∷◌, Some}
use Rattle.std.specs.List.{All, Contains}
use Rattle.word_core.specs.declared.automata.Edge.{Edge}
use Rattle.word_core.specs.Automaton.{AutomatonData, edges_at}
use Rattle.word_core.specs.Run.{count}

-- a path from one state to another
abbrev pub IsPath : AutomatonData → ℕ → List Edge → ℕ → Type 0
IsPath a q [] p = q ≡ p
IsPath a q (e ∷ es) p = Contains (edges_at a q) e × IsPath a e.next es p

-- a path with a marked edge leads from a state to one of a list
pub record Returns (a : AutomatonData) (states : List ℕ) (q : ℕ) : Type 0 where
  pub path : List Edge
  pub last : ℕ
  pub is : IsPath a q path last
  pub within : Contains states last
  pub marked : 0 < count path

-- a live state lies in a finite list of states, each of which has a path that has a marked edge and ends in the list
pub record IsLive (a : AutomatonData) (q : ℕ) : Type 0 where
  pub states : List ℕ
  pub among : Contains states q
  pub each : All (Returns a states) states

-- a path leads from the first state to this one
pub record IsReachable (a : AutomatonData) (q : ℕ) : Type 0 where
  pub first : ℕ
  pub begins : a.init ≡ Some first
  pub path : List Edge
  pub is : IsPath a first path q
