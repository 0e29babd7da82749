-- Runs of an automaton, their counts, and what a machine keeps.
use Rattle.std.specs.Prelude.{◌≡◌, ℕ, ◌+◌, ◌<◌, ◌≤◌, true, List, [], ◌∷◌, IsSomeAnd, if◌then◌else◌}
use Rattle.std.specs.List.{Contains}
use Rattle.word_core.specs.declared.automata.Edge.{Edge}
use Rattle.word_core.specs.Automaton.{AutomatonData, edges_at}
use Rattle.word_core.specs.Cube.{holds}
use Rattle.word_core.specs.Lasso.{LassoData, prefix}
use Rattle.word_core.specs.Machine.{MachineData}
use Rattle.word_core.specs.Play.{IsPlay}

-- a run from a state on a list of letters: an edge for each, which holds it and goes on from where the last one led
abbrev pub IsRunFrom : AutomatonData → ℕ → List ℕ → List Edge → Type 0
IsRunFrom a q [] [] = Unit {0}
IsRunFrom a q [] (e ∷ es) = ⊥
IsRunFrom a q (x ∷ xs) [] = ⊥
IsRunFrom a q (x ∷ xs) (e ∷ es) = Contains (edges_at a q) e × (holds e.cube x ≡ true) × IsRunFrom a e.next xs es

-- a run begins where init says, and there is none without it
abbrev pub IsRun : AutomatonData → List ℕ → List Edge → Type 0
IsRun a letters edges = IsSomeAnd a.init (λ q. IsRunFrom a q letters edges)

-- the count of a run: the number of its marked edges
abbrev pub count : List Edge → ℕ
count [] = 0
count (e ∷ es) = (if e.marked then 1 else 0) + count es

-- every run on every finite play of the machine has a count of at most k
abbrev pub Keeps : AutomatonData → MachineData → ℕ → Type 0
Keeps a m k = (letters : List ℕ) (edges : List Edge) → IsPlay m letters → IsRun a letters edges → count edges ≤ k

-- a lasso is accepted where for every number some run on a finite part of its unrolling has a greater count
abbrev pub Accepts : AutomatonData → LassoData → Type 0
Accepts a w = (b : ℕ) → (n : ℕ) × (edges : List Edge) × IsRun a (prefix w n) edges × (b < count edges)
