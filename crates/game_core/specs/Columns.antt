-- Columns of predecessors, one for each action.
use Rattle.std.specs.Prelude.{◌≡◌, ℕ, ℤ, ◌<◌, ◌≤◌, Bool, List, [], length, map, slice_index_or}
use Rattle.std.specs.List.{All, list_any, list_all}
use Rattle.game_form.specs.Game.{GameData}
use Rattle.game_form.specs.Vector.{predecessor}
use Rattle.game_core.specs.Front.{Misses, under}

-- the predecessors in one column
pub record ColumnData : Type 0 where
  pub items : List (List ℤ)

abbrev pub column_at : List ColumnData → ℕ → List (List ℤ)
column_at columns at = slice_index_or (map (λ c. c.items) columns) at []

-- the predecessors of the first of the vectors under an action
pub record IsColumn (g : GameData) (action : ℕ) (vectors column : List (List ℤ)) : Type 0 where
  pub short : length column ≤ length vectors
  pub each : (i : ℕ) (d : List ℤ) → i < length column → slice_index_or column i d ≡ predecessor g action (slice_index_or vectors i d)

pub record AreColumns (g : GameData) (vectors : List (List ℤ)) (columns : List ColumnData) : Type 0 where
  pub same_length : length columns ≡ length g.actions
  pub each : (action : ℕ) → action < length g.actions → IsColumn g action vectors (column_at columns action)

-- f is at or below no member of the columns of these options
abbrev pub MissesAll : List ℤ → List ColumnData → List ℕ → Type 0
MissesAll f columns options = All (λ at. Misses f (column_at columns at)) options

-- f is at or below a member of the column of some option, and of each option
abbrev pub some_covers : List ℤ → List ColumnData → List ℕ → Bool
some_covers f columns options = list_any (λ at. under (column_at columns at) f) options

abbrev pub each_covers : List ℤ → List ColumnData → List ℕ → Bool
each_covers f columns options = list_all (λ at. under (column_at columns at) f) options

-- the columns of these options have all predecessors
abbrev pub AreFull : List (List ℤ) → List ColumnData → List ℕ → Type 0
AreFull vectors columns options = All (λ at. length (column_at columns at) ≡ length vectors) options

-- no column is shorter than it was
abbrev pub HaveGrown : List ColumnData → List ColumnData → Type 0
HaveGrown old new = (at : ℕ) → length (column_at old at) ≤ length (column_at new at)
