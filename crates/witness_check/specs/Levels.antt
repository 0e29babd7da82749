-- Paths of the product, and the marks that they take.
use Rattle.std.specs.Prelude.{◌≡◌, ℕ, ◌+◌, ◌<◌, ◌≤◌, ◌⊎◌, Bool, true, false, List, [], ◌∷◌, length, slice_index_or, slice_set, ◌++◌, if◌then◌else◌}
use Rattle.std.specs.List.{All, Contains}
use Rattle.witness_check.specs.declared.products.Arc.{Arc}

-- the arcs of a node
abbrev pub arcs_at : List (List Arc) → ℕ → List Arc
arcs_at arcs i = slice_index_or arcs i []

-- what a table says of a node
abbrev pub is_in : List Bool → ℕ → Bool
is_in table i = slice_index_or table i false

-- the number of marks of an arc
abbrev pub mark_of : Bool → ℕ
mark_of marked = if marked then 1 else 0

-- the paths from node 0, with the number of marks that they take and the node in which they end
pub data Path (arcs : List (List Arc)) : ℕ → ℕ → Type 0 where
  start : Path arcs 0 0
  step : {c i : ℕ} (arc : Arc) → Path arcs c i → Contains (arcs_at arcs i) arc → Path arcs (mark_of arc.marked + c) arc.to

-- some path with at least so many marks ends in a node
abbrev pub IsReached : List (List Arc) → ℕ → ℕ → Type 0
IsReached arcs c i = (d : ℕ) × (c ≤ d) × Path arcs d i

-- the nodes to which arcs lead from those of a table, and those of the table
pub data Closed (arcs : List (List Arc)) (table : List Bool) : ℕ → Type 0 where
  seed : {i : ℕ} → is_in table i ≡ true → Closed arcs table i
  more : {i : ℕ} (arc : Arc) → Closed arcs table i → Contains (arcs_at arcs i) arc → Closed arcs table arc.to

-- an arc may be taken: every one, or a marked one where only those are asked for
abbrev pub IsAsked : Bool → Arc → Type 0
IsAsked only arc = only ≡ true → arc.marked ≡ true

-- how many nodes a table has
abbrev pub members : List Bool → ℕ
members [] = 0
members (b ∷ bs) = mark_of b + members bs

-- a list of the nodes of a table, each once
pub record IsListed (table : List Bool) (found : List ℕ) : Type 0 where
  pub listed : (i : ℕ) → is_in table i ≡ true → Contains found i
  pub counted : length found ≡ members table
  pub inside : All (λ n. is_in table n ≡ true) found

-- all arcs lead to nodes
abbrev pub AreWithin : List (List Arc) → Type 0
AreWithin arcs = (i : ℕ) (arc : Arc) → Contains (arcs_at arcs i) arc → arc.to < length arcs

-- a node behind a marked arc from a node of a table, and further arcs
pub data IsBehind (arcs : List (List Arc)) (table : List Bool) : ℕ → Type 0 where
  first : (i : ℕ) (arc : Arc) → is_in table i ≡ true → Contains (arcs_at arcs i) arc → arc.marked ≡ true → IsBehind arcs table arc.to
  further : {i : ℕ} (arc : Arc) → IsBehind arcs table i → Contains (arcs_at arcs i) arc → IsBehind arcs table arc.to

-- a node was in the table, or is added to it and to the list
abbrev pub IsVisited : ℕ → List Bool → List ℕ → List Bool → List ℕ → Type 0
IsVisited node table found table' found' =
    ((is_in table node ≡ true) × (table' ≡ table) × (found' ≡ found))
    ⊎ ((is_in table node ≡ false) × (table' ≡ slice_set table node true) × (found' ≡ found ++ node ∷ []))

-- the end of a marked arc from a node of a table
abbrev pub IsMarkedEnd : List (List Arc) → List Bool → ℕ → Type 0
IsMarkedEnd arcs table i = (j : ℕ) × (arc : Arc) × (is_in table j ≡ true) × Contains (arcs_at arcs j) arc × (arc.marked ≡ true) × (i ≡ arc.to)
