-- Counting: what a game's lanes keep, and what the runs of its automaton keep, are the same.
use Rattle.std.specs.Prelude.{◌≡◌, ℕ, ℤ, pos, negsuc, ◌+◌, ◌<◌, ◌≤◌, ◌^◌, List, [], ◌∷◌, length, map, min, IsSomeAnd}
use Rattle.std.specs.List.{All}
use Rattle.word_core.specs.declared.automata.Edge.{Edge}
use Rattle.word_core.specs.Automaton.{AutomatonData, IsAutomaton}
use Rattle.word_core.specs.Machine.{MachineData}
use Rattle.word_core.specs.Play.{move_of}
use Rattle.word_core.specs.Run.{IsRunFrom, Keeps, count}
use Rattle.game_form.specs.Game.{GameData, IsGame, lanes}
use Rattle.game_form.specs.Vector.{initial, lane}
use Rattle.game_form.specs.Held.{IsMachineOf, KeepsFrom, after}
use Rattle.action_groups.specs.Rows.{HasRows}

-- the game's lanes are the automaton's states, and its rows have the numbers of the edges
pub record Counts (a : AutomatonData) (g : GameData) : Type 0 where
  pub automaton : IsAutomaton a
  pub game : IsGame g
  pub first : g.init ≡ a.init
  pub lanes_are : lanes g ≡ length a.states
  pub rows : HasRows a g

-- the state in which a run from q ends
abbrev pub end_of : ℕ → List Edge → ℕ
end_of q [] = q
end_of q (e ∷ edges) = end_of e.next edges

-- a run on these letters that ends in p
abbrev pub IsRunTo : AutomatonData → List ℕ → ℕ → List Edge → Type 0
IsRunTo a letters p edges = IsSomeAnd a.init (λ q. IsRunFrom a q letters edges × (end_of q edges ≡ p))

-- the smaller of k + 1 and the greatest count of a run that ends in p, or -1 where there is no such run
abbrev pub IsGreatestCount : AutomatonData → ℕ → List ℕ → ℕ → ℤ → Type 0
IsGreatestCount a k letters p (pos n) =
    ((edges : List Edge) × IsRunTo a letters p edges × (min (k + 1) (count edges) ≡ n)) × ((edges : List Edge) → IsRunTo a letters p edges → min (k + 1) (count edges) ≤ n)
IsGreatestCount a k letters p (negsuc n) = (n ≡ 0) × ((edges : List Edge) → IsRunTo a letters p edges → ⊥)

-- lanes are greatest counts, after each list of letters without a bit past the signals
abbrev pub LanesAreCounts : Type 0
LanesAreCounts =
    (a : AutomatonData) (g : GameData) (k : ℕ) (letters : List ℕ) (p : ℕ) → Counts a g → g.k ≡ pos k → p < lanes g → All (λ x. x < 2 ^ (g.inputs + g.outputs)) letters
    → IsGreatestCount a k letters p (lane (after g (initial g) (map (move_of g.player g.inputs) letters)) p)

-- a machine that keeps every lane at most at k along all its plays keeps k on the automaton: no run on a play has more marks
abbrev pub CountingIsSound : Type 0
CountingIsSound = (a : AutomatonData) (g : GameData) (m : MachineData) (k : ℕ) → Counts a g → g.k ≡ pos k → IsMachineOf g m → KeepsFrom g m 0 (initial g) → Keeps a m k

-- a machine that keeps k on the automaton keeps every lane at most at k
abbrev pub CountingIsExact : Type 0
CountingIsExact = (a : AutomatonData) (g : GameData) (m : MachineData) (k : ℕ) → Counts a g → g.k ≡ pos k → IsMachineOf g m → Keeps a m k → KeepsFrom g m 0 (initial g)
