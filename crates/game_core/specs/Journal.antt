-- The journal of a game: what a run by one thread takes out of its board's list, and what it puts there.
use Rattle.std.specs.Prelude.{◌≡◌, ◌⊎◌, ◌<◌, ◌%◌, ℤ, Bool, true, false, List, [], ◌∷◌, Some}
use Rattle.antichain_list.specs.Antichain.{covered}
use Rattle.counter_vec.specs.Counters.{at_or_below}
use Rattle.game_form.specs.Game.{GameData}
use Rattle.game_form.specs.Vector.{initial}
use Rattle.game_core.specs.Board.{BoardData, OutcomeData, IsWork, job_of, open_count, opened}
use Rattle.game_core.specs.Commit.{Commits}
use Rattle.game_core.specs.declared.boards.Committed.TheVariants.{Fresh, Replaced}
use Rattle.game_core.specs.declared.solvers.Solved.{Solved}
use Rattle.game_core.specs.declared.solvers.Solved.TheVariants.{Held, Lost}

-- an entry that was taken out, and what was left of it, in order
pub record StepData : Type 0 where
  pub taken : List ℤ
  pub put : List (List ℤ)

-- some entry of a board is at or above the initial vector
abbrev pub has_initial : BoardData → Bool
has_initial b = covered at_or_below (initial b.game) b.list

-- where only the initial vector is asked for, an entry is at or above it
abbrev pub GoesOn : Bool → BoardData → Type 0
GoesOn whole b = whole ≡ false → has_initial b ≡ true

-- a run ends where every entry is fresh, or, if only the initial vector is asked for, where no entry is at or above it
abbrev pub Ends : Bool → BoardData → Type 0
Ends whole b = (open_count b.marks ≡ 0) ⊎ ((whole ≡ false) × (has_initial b ≡ false))

-- the outcome of the job that number 0 claims
pub record IsNext (b : BoardData) (o : OutcomeData) : Type 0 where
  pub some : 0 < open_count b.marks
  pub work : IsWork (job_of b (0 % open_count b.marks)) o

-- a run from a board, with the steps that it writes down, and the board at its end
pub data IsRun (whole : Bool) : BoardData → List StepData → BoardData → Type 0 where
  run_ends : (b : BoardData) → Ends whole b → IsRun whole b [] b
  run_keeps : (b next last : BoardData) (o : OutcomeData) (steps : List StepData) → GoesOn whole b → IsNext b o → Commits b o next Fresh
      → IsRun whole next steps last → IsRun whole b steps last
  run_replaces : (b next last : BoardData) (o : OutcomeData) (left : List (List ℤ)) (steps : List StepData) → GoesOn whole b → IsNext b o → o.left ≡ Some left → Commits b o next Replaced
      → IsRun whole next steps last → IsRun whole b (record { taken = o.entry; put = left } ∷ steps) last

-- what a board at the end of a run answers
abbrev pub AnswerOf : BoardData → Solved → Type 0
AnswerOf b (Held list) = list ≡ b.list
AnswerOf b Lost = has_initial b ≡ false

-- the journal of a game with the run's answer
pub record IsJournal (g : GameData) (whole : Bool) (steps : List StepData) (answer : Solved) : Type 0 where
  pub last : BoardData
  pub run : IsRun whole (opened g) steps last
  pub answers : AnswerOf last answer
