-- Edges with the states that they leave, and what they do.
use Rattle.std.specs.Prelude.{◌≡◌, ℕ, ◌<◌, ◌⊎◌, Bool, true, List}
use Rattle.std.specs.List.{All, AllPairs}
use Rattle.action_groups.specs.declared.ways.Way.{Way}

-- from one of so many states to another
abbrev pub IsWay : ℕ → Way → Type 0
IsWay count w = (w.from < count) × (w.edge.next < count)

abbrev pub IsStep : ℕ → ℕ × ℕ × Bool → Type 0
IsStep count s = (s.0 < count) × (s.1 < count)

-- a step from an earlier state, or to an earlier one from the same
abbrev pub IsBefore : ℕ × ℕ × Bool → ℕ × ℕ × Bool → Type 0
IsBefore s t = (s.0 < t.0) ⊎ ((s.0 ≡ t.0) × (s.1 < t.1))

-- a step that may stand in front of another one in ascending order
abbrev pub IsNotAfter : ℕ × ℕ × Bool → ℕ × ℕ × Bool → Type 0
IsNotAfter s t = IsBefore s t ⊎ ((s.0 ≡ t.0) × (s.1 ≡ t.1) × (s.2 ≡ true → t.2 ≡ true))

-- steps between so many states, in order, each once
pub record AreSteps (count : ℕ) (steps : List (ℕ × ℕ × Bool)) : Type 0 where
  pub each : All (IsStep count) steps
  pub rising : AllPairs IsBefore steps
