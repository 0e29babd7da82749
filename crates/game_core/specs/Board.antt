-- Boards, jobs and outcomes as values.
use Rattle.std.specs.Prelude.{◌≡◌, ℕ, zero, suc, ℤ, ◌<◌, Bool, true, false, List, [], ◌∷◌, length, Option, Some, None, slice_index_or}
use Rattle.std.specs.List.{Contains, remove}
use Rattle.antichain_list.specs.Antichain.{IsAntichain, added, covered}
use Rattle.counter_vec.specs.Counters.{at_or_below, lexicographic}
use Rattle.word_core.specs.declared.branches.Branch.{Branch}
use Rattle.word_core.specs.declared.branches.Branch.TheVariants.{Leaf}
use Rattle.game_form.specs.Covering.{CoversLetters}
use Rattle.game_form.specs.Game.{GameData}
use Rattle.game_form.specs.Held.{IsHeld}
use Rattle.game_form.specs.Vector.{IsVector, top}
use Rattle.cpre_step.specs.Refinement.{AreVectors, AreLeft, answers}

-- a game, the list of its entries, and whether each is fresh
pub record BoardData : Type 0 where
  pub game : GameData
  pub list : List (List ℤ)
  pub marks : List Bool

abbrev pub entry_at : List (List ℤ) → ℕ → List ℤ
entry_at list i = slice_index_or list i []

abbrev pub mark_at : List Bool → ℕ → Bool
mark_at marks i = slice_index_or marks i false

-- every vector that some machine, of any size, holds is at or below one of these
pub record CoversHeld (g : GameData) (list : List (List ℤ)) : Type 0 where
  pub all : CoversLetters g → (v : List ℤ) → IsHeld g v → covered at_or_below v list ≡ true

-- an ascending antichain of vectors of the game, at or above all that is held; from a fresh one the player can stay in the list
pub record IsBoard (b : BoardData) : Type 0 where
  pub vectors : AreVectors b.game b.list
  pub antichain : IsAntichain at_or_below lexicographic b.list
  pub covers : CoversHeld b.game b.list
  pub marks : length b.marks ≡ length b.list
  pub fresh : (i : ℕ) → i < length b.list → mark_at b.marks i ≡ true → answers b.game b.list (entry_at b.list i) ≡ true

-- the board with the top vector alone, not fresh
abbrev pub opened : GameData → BoardData
opened g = record { game = g; list = top g ∷ []; marks = false ∷ [] }

-- how many entries aren't fresh
abbrev pub open_count : List Bool → ℕ
open_count [] = 0
open_count (true ∷ marks) = open_count marks
open_count (false ∷ marks) = suc (open_count marks)

-- the place of the entry number n among those that aren't fresh
abbrev pub open_place : List Bool → ℕ → ℕ
open_place [] n = 0
open_place (true ∷ marks) n = suc (open_place marks n)
open_place (false ∷ marks) zero = 0
open_place (false ∷ marks) (suc n) = suc (open_place marks n)

-- an entry of a list, to be looked at
pub record JobData : Type 0 where
  pub game : GameData
  pub snapshot : List (List ℤ)
  pub entry : List ℤ

pub record IsJob (j : JobData) : Type 0 where
  pub vectors : AreVectors j.game j.snapshot
  pub vector : IsVector j.game j.entry
  pub taken : Contains j.snapshot j.entry
  pub covers : CoversHeld j.game j.snapshot

-- the job of a board for a number
abbrev pub job_of : BoardData → ℕ → JobData
job_of b number = record { game = b.game; snapshot = b.list; entry = entry_at b.list (open_place b.marks number) }

-- a job with what its entry became: none where it was kept, and else what is left
pub record OutcomeData : Type 0 where
  pub game : GameData
  pub snapshot : List (List ℤ)
  pub entry : List ℤ
  pub left : Option (List (List ℤ))

abbrev pub IsLeft : GameData → List (List ℤ) → List ℤ → Option (List (List ℤ)) → Type 0
IsLeft g snapshot entry None = answers g snapshot entry ≡ true
IsLeft g snapshot entry (Some left) = (answers g snapshot entry ≡ false) × AreLeft g snapshot entry left

pub record IsOutcome (o : OutcomeData) : Type 0 where
  pub vectors : AreVectors o.game o.snapshot
  pub vector : IsVector o.game o.entry
  pub taken : Contains o.snapshot o.entry
  pub covers : CoversHeld o.game o.snapshot
  pub refined : IsLeft o.game o.snapshot o.entry o.left

-- a job with what its entry becomes under the job's list
pub record IsWork (j : JobData) (o : OutcomeData) : Type 0 where
  pub game : o.game ≡ j.game
  pub snapshot : o.snapshot ≡ j.snapshot
  pub entry : o.entry ≡ j.entry
  pub left : IsLeft j.game j.snapshot j.entry o.left

abbrev pub no_node : Branch
no_node = Leaf 0

-- the list with vectors put one after another
abbrev pub puts : List (List ℤ) → List (List ℤ) → List (List ℤ)
puts list [] = list
puts list (v ∷ vectors) = puts (added at_or_below lexicographic v list) vectors

-- the list in which what is left of an entry has taken its place
abbrev pub replaced : List (List ℤ) → ℕ → List (List ℤ) → List (List ℤ)
replaced list place left = puts (remove list place) left

abbrev pub IsAt : List (List ℤ) → ℕ → List ℤ → Type 0
IsAt list place v = (place < length list) × (entry_at list place ≡ v)

abbrev pub IsNowhere : List (List ℤ) → List ℤ → Type 0
IsNowhere list v = (i : ℕ) → i < length list → entry_at list i ≡ v → ⊥
