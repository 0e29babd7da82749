-- Covers as lists of numbers of formulas, and the tables of the covers of formulas.
use Rattle.std.specs.Prelude.{◌≡◌, ◌≢◌, ℕ, ◌≤◌, ◌<◌, ◌^◌, true, List, All, length, fold, bit_or, IfSome}
use Rattle.ltl_form.specs.declared.normals.Node.{Node}
use Rattle.cover_sets.specs.Covers.{CoverSets, Row, consistent, opposites, rows_of, set_row}
use Rattle.cover_sets.specs.Numbers.{numbers_of}

pub record CoverData : Type 0 where
  pub literals : List ℕ
  pub next : List ℕ
  pub postponed : List ℕ

-- each set as its ascending list
abbrev pub lists_of : CoverSets → CoverData
lists_of c = record { literals = numbers_of c.literals; next = numbers_of c.next; postponed = numbers_of c.postponed }

-- the set of the numbers of a list
abbrev pub set_from : List ℕ → ℕ
set_from numbers = fold (λ set n. bit_or set (2 ^ n)) 0 numbers

-- two numbers below 512
abbrev pub IsPair : ℕ × ℕ → Type 0
IsPair p = (p.0 < 512) × (p.1 < 512) × (p.0 ≢ p.1)

abbrev pub ArePairs : List (ℕ × ℕ) → Type 0
ArePairs pairs = All IsPair pairs

abbrev pub IsRowConsistent : List (ℕ × ℕ) → Row → Type 0
IsRowConsistent pairs row = IfSome row (λ list. All (λ c. consistent pairs c.literals ≡ true) list)

pub record TableData : Type 0 where
  pub opposites : List (ℕ × ℕ)
  pub rows : List Row

-- at most 512 rows of consistent covers
pub record IsTable (opposites : List (ℕ × ℕ)) (rows : List Row) : Type 0 where
  pub pairs : ArePairs opposites
  pub few : length rows ≤ 512
  pub consistent_rows : All (IsRowConsistent opposites) rows

-- the table of the formulas
abbrev pub table_of : List Node → TableData
table_of nodes = record { opposites = opposites nodes; rows = rows_of nodes }

-- the reduced list of a set of formulas, by a table
abbrev pub covers_in : TableData → ℕ → Row
covers_in table set = set_row table.opposites table.rows set
