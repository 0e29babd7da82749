-- Machines whose states are entries.
use Rattle.std.specs.Prelude.{◌≡◌, ℕ, ◌<◌, ℤ, List, [], length, take, Some, slice_index, slice_index_or}
use Rattle.std.specs.List.{All, Contains, flat_map}
use Rattle.word_core.specs.declared.machines.Line.{Line}
use Rattle.game_form.specs.Game.{GameData}
use Rattle.game_form.specs.Vector.{initial}
use Rattle.strategy_play.specs.Answer.{Answers}
use Rattle.strategy_play.specs.Lead.{place_above, next_at}
use Rattle.strategy_play.specs.Walk.{InTurn, nexts_of}

-- the entry of a state
abbrev pub entry_of_state : List (List ℤ) → List ℕ → ℕ → List ℤ
entry_of_state entries order s = slice_index_or entries (slice_index order s) []

-- in each state the lines answer from its entry
abbrev pub AnswersEach : GameData → List (List ℤ) → List ℕ → List (List Line) → Type 0
AnswersEach g entries order states =
    (s : ℕ) → s < length states → Answers g (next_at g entries (entry_of_state entries order s)) (λ n. slice_index order n) (slice_index_or states s [])

-- each state is an entry, no two are the same one, the first is the first entry at or above the initial vector, and each
-- answers; they are numbered breadth first: line by line of state by state each next is a number before, or the next number,
-- and each state but the first is the next of a line of a state before it
pub record IsStrategy (g : GameData) (entries : List (List ℤ)) (states : List (List Line)) : Type 0 where
  pub order : List ℕ
  pub count : length order ≡ length states
  pub within : All (λ e. e < length entries) order
  pub once : (i j : ℕ) → i < length order → j < length order → slice_index order i ≡ slice_index order j → i ≡ j
  pub first : place_above entries (initial g) ≡ Some (slice_index order 0)
  pub answers : AnswersEach g entries order states
  pub breadth_first : InTurn 1 (flat_map nexts_of states) (length states)
  pub met : (s : ℕ) → 0 < s → s < length states → Contains (flat_map nexts_of (take s states)) s
