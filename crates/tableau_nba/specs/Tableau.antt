-- What the walk of a tableau looks up.
use Rattle.std.specs.Prelude.{◌≡◌, ℕ, ◌<◌, ◌≤◌, List, [], length, slice_index_or, Some}
use Rattle.std.specs.List.{All}
use Rattle.cover_sets.specs.Cover.{TableData, covers_in}
use Rattle.cover_sets.specs.Bits.{set_of}
use Rattle.cover_sets.specs.Union.{covers_of}
use Rattle.cover_sets.specs.declared.bit_covers.BitCover.{BitCover}
use Rattle.cover_sets.specs.declared.number_sets.NumberSet.{NumberSet}
use Rattle.tableau_nba.specs.declared.cubes.Literal.{Literal}

-- literals of signals below `signals`, with numbers below 512
abbrev pub AreLiterals : ℕ → List Literal → Type 0
AreLiterals signals literals = All (λ l. (l.number < 512) × (l.signal < signals)) literals

-- at most 512 numbers below 512
pub record AreUntils (untils : List ℕ) : Type 0 where
  pub few : length untils ≤ 512
  pub numbers : All (λ u. u < 512) untils

-- sets of formulas, and the covers of each of them
pub record ListsData : Type 0 where
  pub sets : List NumberSet
  pub lists : List (List BitCover)

-- the covers of each set are those by a table
pub record AreCovers (table : TableData) (sets : List NumberSet) (lists : List (List BitCover)) : Type 0 where
  pub each : length sets ≡ length lists
  pub are : (k : ℕ) (d : NumberSet) → k < length sets → covers_in table (set_of (slice_index_or sets k d)) ≡ Some (covers_of (slice_index_or lists k []))

pub record WalkData : Type 0 where
  pub table : TableData
  pub literals : List Literal
  pub untils : List ℕ
  pub signals : ℕ
