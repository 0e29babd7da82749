-- Searches through the states of an automaton.
use Rattle.std.specs.Prelude.{◌≡◌, ℕ, suc, ◌<◌, ◌≤◌, ◌⊎◌, Bool, true, false, ◌&&◌, List, [], ◌∷◌, length, map, Some, slice_index_or}
use Rattle.std.specs.List.{All, Contains, list_any}
use Rattle.word_core.specs.declared.automata.Edge.{Edge}
use Rattle.word_core.specs.Automaton.{AutomatonData, edges_at}
use Rattle.word_core.specs.Run.{count}
use Rattle.nba_trim.specs.Live.{IsPath}

-- states of an automaton with so many of them
abbrev pub AreStates : ℕ → List ℕ → Type 0
AreStates count states = All (λ q. q < count) states

-- for each state of an automaton with so many of them, some of its states
pub record AreStateLists (count : ℕ) (before : List (List ℕ)) : Type 0 where
  pub each : length before ≡ count
  pub states : All (AreStates count) before

abbrev pub ends : List Edge → List ℕ
ends edges = map (λ e. e.next) edges

-- to the states with an edge to each state one is added that has these edges
pub record AddsSource (q : ℕ) (edges : List Edge) (old new : List (List ℕ)) : Type 0 where
  pub kept : (p x : ℕ) → Contains (slice_index_or old p []) x → Contains (slice_index_or new p []) x
  pub sound : (p x : ℕ) → Contains (slice_index_or new p []) x → Contains (slice_index_or old p []) x ⊎ ((x ≡ q) × Contains (ends edges) p)
  pub complete : (p : ℕ) → Contains (ends edges) p → Contains (slice_index_or new p []) q

-- the states with an edge to each state, of those below a number
pub record AreSources (a : AutomatonData) (below : ℕ) (before : List (List ℕ)) : Type 0 where
  pub sound : (p x : ℕ) → Contains (slice_index_or before p []) x → Contains (ends (edges_at a x)) p
  pub complete : (p x : ℕ) → x < below → Contains (ends (edges_at a x)) p → Contains (slice_index_or before p []) x

-- what is told of a state, and no for a number that is none
abbrev pub at : List Bool → ℕ → Bool
at told q = slice_index_or told q false

abbrev pub trues : List Bool → ℕ
trues [] = 0
trues (true ∷ bs) = suc (trues bs)
trues (false ∷ bs) = trues bs

-- by state whether it was found, and the found ones in order
pub record SearchData : Type 0 where
  pub found : List Bool
  pub queue : List ℕ

pub record IsSearch (found : List Bool) (queue : List ℕ) : Type 0 where
  pub states : AreStates (length found) queue
  pub counted : length queue ≡ trues found
  pub has : (q : ℕ) → at found q ≡ true → Contains queue q
  pub marked : All (λ q. at found q ≡ true) queue

-- exactly these states are found besides those that were found before
pub record Finds (P : ℕ → Type 0) (old new : SearchData) : Type 0 where
  pub count : length new.found ≡ length old.found
  pub longer : length old.queue ≤ length new.queue
  pub same : (k : ℕ) (d : ℕ) → k < length old.queue → slice_index_or new.queue k d ≡ slice_index_or old.queue k d
  pub kept : (q : ℕ) → at old.found q ≡ true → at new.found q ≡ true
  pub sound : (q : ℕ) → at new.found q ≡ true → (at old.found q ≡ true) ⊎ P q
  pub complete : (q : ℕ) → P q → at new.found q ≡ true

-- a live state with a marked edge to a live one
abbrev pub has_mark : List Bool → List Edge → Bool
has_mark live edges = list_any (λ e. e.marked && at live e.next) edges

abbrev pub is_start : AutomatonData → List Bool → ℕ → Bool
is_start a live q = at live q && has_mark live (edges_at a q)

-- a path over live states, with a marked edge, ends in a live one
pub data Rejoins (a : AutomatonData) (live : List Bool) : ℕ → Type 0 where
  marked_edge : (q : ℕ) → is_start a live q ≡ true → Rejoins a live q
  edge_back : (q p : ℕ) → at live q ≡ true → Contains (ends (edges_at a q)) p → Rejoins a live p → Rejoins a live q

pub record AreRejoining (a : AutomatonData) (live left : List Bool) : Type 0 where
  pub count : length left ≡ length live
  pub sound : (q : ℕ) → at left q ≡ true → Rejoins a live q
  pub complete : (q : ℕ) → Rejoins a live q → at left q ≡ true

-- the first state reaches a state over live ones
pub data Reached (a : AutomatonData) (live : List Bool) : ℕ → Type 0 where
  first_state : (q : ℕ) → a.init ≡ Some q → at live q ≡ true → Reached a live q
  edge_on : (p q : ℕ) → Reached a live p → Contains (ends (edges_at a p)) q → at live q ≡ true → Reached a live q

pub record AreReached (a : AutomatonData) (live reached : List Bool) : Type 0 where
  pub count : length reached ≡ length live
  pub sound : (q : ℕ) → at reached q ≡ true → Reached a live q
  pub complete : (q : ℕ) → Reached a live q → at reached q ≡ true

-- paths from other states have at most so many marked edges
abbrev pub IsBoundedOutside : AutomatonData → List Bool → ℕ → Type 0
IsBoundedOutside a live bound = (q : ℕ) (path : List Edge) (p : ℕ) → at live q ≡ false → IsPath a q path p → count path ≤ bound

-- the live states: each has a path with a marked edge among them, and the others have no path with more than so many
pub record AreLive (a : AutomatonData) (live : List Bool) : Type 0 where
  pub each : length live ≡ length a.states
  pub rejoin : (q : ℕ) → at live q ≡ true → Rejoins a live q
  pub bound : ℕ
  pub outside : IsBoundedOutside a live bound
