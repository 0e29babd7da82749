-- The automaton of some states of another one, with the edges between them.
use Rattle.std.specs.Prelude.{◌≡◌, ℕ, ◌<◌, ◌↔◌, nat_eq, List, map, Option, Some, None}
use Rattle.std.specs.List.{Contains, AllPairs, filter_map, position}
use Rattle.word_core.specs.declared.automata.Edge.{Edge}
use Rattle.word_core.specs.Automaton.{AutomatonData, edges_at}
use Rattle.word_core.specs.Lasso.{LassoData}
use Rattle.word_core.specs.Run.{Accepts}
use Rattle.nba_trim.specs.Live.{IsLive, IsReachable}

-- the new number of a state: its place among the kept ones
abbrev pub number_of : List ℕ → ℕ → Option ℕ
number_of kept q = position (nat_eq q) kept

abbrev pub number_if : List ℕ → Option ℕ → Option ℕ
number_if kept None = None
number_if kept (Some q) = number_of kept q

abbrev pub edge_to : Edge → Option ℕ → Option Edge
edge_to e None = None
edge_to e (Some n) = Some (record { cube = e.cube; next = n; marked = e.marked })

-- an edge to a kept state leads to its new number
abbrev pub kept_edge : List ℕ → Edge → Option Edge
kept_edge kept e = edge_to e (number_of kept e.next)

abbrev pub kept_edges : List ℕ → List Edge → List Edge
kept_edges kept edges = filter_map (kept_edge kept) edges

-- the automaton of the kept states, with the edges between them in their old order
abbrev pub restricted : AutomatonData → List ℕ → AutomatonData
restricted a kept = record {
  signals = a.signals;
  states = map (λ q. kept_edges kept (edges_at a q)) kept;
  init = number_if kept a.init;
}

-- the live states that the first one reaches, in their old order
pub record AreKept (a : AutomatonData) (kept : List ℕ) : Type 0 where
  pub ascending : AllPairs (λ p q. p < q) kept
  pub exactly : (q : ℕ) → Contains kept q ↔ (IsLive a q × IsReachable a q)

-- the trimmed automaton has the live states that the first one reaches, and no other
pub record IsTrimmed (a t : AutomatonData) : Type 0 where
  pub kept : List ℕ
  pub are : AreKept a kept
  pub is : t ≡ restricted a kept

-- the first state isn't live, or there is none
abbrev pub HasNoLiveFirst : AutomatonData → Type 0
HasNoLiveFirst a = (q : ℕ) → a.init ≡ Some q → IsLive a q → ⊥

-- two automata accept the same lassos
abbrev pub AcceptSame : AutomatonData → AutomatonData → Type 0
AcceptSame a t = (w : LassoData) → Accepts t w ↔ Accepts a w
