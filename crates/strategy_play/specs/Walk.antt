-- Entries numbered as they are met.
use Rattle.std.specs.Prelude.{◌≡◌, ℕ, suc, ◌+◌, ◌<◌, ◌≤◌, max, map, List, [], ◌∷◌, ◌++◌, length, slice_index, Option, Some, None}
use Rattle.std.specs.List.{All}
use Rattle.word_core.specs.declared.machines.Line.{Line}
use Rattle.strategy_play.specs.Lead.{lead}

-- how many entries have no number yet
abbrev pub open_count : List (Option ℕ) → ℕ
open_count [] = 0
open_count (None ∷ rest) = suc (open_count rest)
open_count (Some n ∷ rest) = open_count rest

-- the numbers of so many entries, and the entries by number
pub record IsWalk (count : ℕ) (numbers : List (Option ℕ)) (order : List ℕ) : Type 0 where
  pub counted : length numbers ≡ count
  pub entries : All (λ e. e < count) order
  pub numbered : (i n : ℕ) → lead numbers i ≡ Some n → (n < length order) × (slice_index order n ≡ i)
  pub ordered : (n : ℕ) → n < length order → lead numbers (slice_index order n) ≡ Some n
  pub balance : length order + open_count numbers ≡ count

-- some entries were put behind the others
pub record Extends (old new : List ℕ) : Type 0 where
  pub more : List ℕ
  pub is : new ≡ old ++ more

-- a line that leads to the number of the entry to which another one leads
pub record IsRenumbered (order : List ℕ) (l m : Line) : Type 0 where
  pub when : m.when ≡ l.when
  pub own : m.own ≡ l.own
  pub within : m.next < length order
  pub next : slice_index order m.next ≡ l.next

-- numbers in turn, from so many on: each is one of those before, or the next one; and how many there are in the end
abbrev pub InTurn : ℕ → List ℕ → ℕ → Type 0
InTurn count [] end = end ≡ count
InTurn count (n ∷ ns) end = (n ≤ count) × InTurn (max count (n + 1)) ns end

-- to what the lines lead
abbrev pub nexts_of : List Line → List ℕ
nexts_of lines = map (λ l. l.next) lines
