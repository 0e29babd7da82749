-- How a run goes on.
use Rattle.std.specs.Prelude.{◌≡◌, ℤ, Bool, true, false, List, [], ◌∷◌, ◌++◌, Option, Some, None}
use Rattle.game_core.specs.Board.{BoardData, OutcomeData, open_count}
use Rattle.game_core.specs.Journal.{StepData, GoesOn, IsRun, has_initial}

-- what is written down of an outcome
abbrev pub steps_by : List ℤ → Option (List (List ℤ)) → List StepData
steps_by entry None = []
steps_by entry (Some left) = record { taken = entry; put = left } ∷ []

abbrev pub steps_of : OutcomeData → List StepData
steps_of o = steps_by o.entry o.left

-- a run from `b`, before which some steps were written, comes to `next`, before which `more` were
abbrev pub Leads : Bool → BoardData → List StepData → BoardData → List StepData → Type 0
Leads whole b steps next more =
    (rest : List StepData) (last : BoardData) → IsRun whole next rest last → (all : List StepData) × IsRun whole b all last × (steps ++ all ≡ more ++ rest)

-- a run has stopped since the initial vector is lost, or since every entry is fresh
abbrev pub Stopped : Bool → Bool → BoardData → Type 0
Stopped whole true b = (whole ≡ false) × (has_initial b ≡ false)
Stopped whole false b = (open_count b.marks ≡ 0) × GoesOn whole b
