-- What a look at all classes says.
use Rattle.std.specs.Prelude.{◌≡◌, ℕ, ℤ, ◌<◌, true, List, length, Vec, slice_index_or}
use Rattle.std.specs.List.{Contains, list_any}
use Rattle.std.specs.declared.alloc.Global.{Global}
use Rattle.game_core.specs.declared.looks.Tried.{Tried}
use Rattle.game_core.specs.declared.looks.Tried.TheVariants.{Works, Fails}
use Rattle.game_core.specs.Columns.{MissesAll, each_covers, ColumnData}
use Rattle.game_core.specs.Plan.{AreActions}

-- each action is an option of its class
abbrev pub AreOptions : List (Vec ℕ Global) → List ℕ → Type 0
AreOptions plan failing =
    (k : ℕ) (d : Vec ℕ Global) (e : ℕ) → k < length failing → k < length plan → Contains (slice_index_or plan k d).items (slice_index_or failing k e)

-- f misses the columns of so many actions, an option of each class
pub record FailsEach (f : List ℤ) (columns : List ColumnData) (plan : List (Vec ℕ Global)) (count : ℕ) (failing : List ℕ) : Type 0 where
  pub each : length failing ≡ count
  pub options : AreOptions plan failing
  pub actions : AreActions (length columns) failing
  pub misses : MissesAll f columns failing

-- f is at or below a member of the column of each option of some class, or else misses one of each class
abbrev pub HasTried : List ℤ → List ColumnData → List (Vec ℕ Global) → Tried → Type 0
HasTried f columns plan Works = list_any (λ c. each_covers f columns c.items) plan ≡ true
HasTried f columns plan (Fails failing) = FailsEach f columns plan (length plan) failing.items
