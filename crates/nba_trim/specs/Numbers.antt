-- New numbers of kept states.
use Rattle.std.specs.Prelude.{◌≡◌, ℕ, ◌<◌, ◌≤◌, Bool, true, List, length, Option, Some, None, slice_index_or}
use Rattle.std.specs.List.{AllPairs, Contains}
use Rattle.nba_trim.specs.Search.{AreStates, at}

pub record NumbersData : Type 0 where
  pub numbers : List (Option ℕ)
  pub kept : List ℕ

-- the states of which it is told, in ascending order
pub record AreTrue (told : List Bool) (kept : List ℕ) : Type 0 where
  pub ascending : AllPairs (λ p q. p < q) kept
  pub fewer : length kept ≤ length told
  pub sound : (q : ℕ) → Contains kept q → at told q ≡ true
  pub complete : (q : ℕ) → at told q ≡ true → Contains kept q

-- the number of each kept state is its place
pub record AreNumbers (numbers : List (Option ℕ)) (kept : List ℕ) : Type 0 where
  pub states : AreStates (length numbers) kept
  pub fewer : length kept ≤ length numbers
  pub given : (q k : ℕ) → slice_index_or numbers q None ≡ Some k → (k < length kept) × (slice_index_or kept k 0 ≡ q)
  pub all : (k : ℕ) → k < length kept → slice_index_or numbers (slice_index_or kept k 0) None ≡ Some k
