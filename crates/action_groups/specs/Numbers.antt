-- The numbers of steps between states.
use Rattle.std.specs.Prelude.{◌≡◌, ℕ, ◌&&◌, Bool, List, [], ◌∷◌, max, nat_eq, if◌then◌else◌}
use Rattle.action_groups.specs.declared.ways.Way.{Way}

abbrev pub mark_number : Bool → ℕ
mark_number marked = if marked then 2 else 1

-- the number of a step: 0 between other states, else 2 where it is marked, else 1
abbrev pub step_number : ℕ × ℕ × Bool → ℕ → ℕ → ℕ
step_number s q p = if nat_eq s.0 q && nat_eq s.1 p then mark_number s.2 else 0

-- the greatest number of the steps
abbrev pub steps_number : List (ℕ × ℕ × Bool) → ℕ → ℕ → ℕ
steps_number [] q p = 0
steps_number (s ∷ steps) q p = max (step_number s q p) (steps_number steps q p)

abbrev pub step_of : Way → ℕ × ℕ × Bool
step_of w = (w.from, w.edge.next, w.edge.marked)

-- two lists of steps have the same numbers
abbrev pub HasSameNumbers : List (ℕ × ℕ × Bool) → List (ℕ × ℕ × Bool) → Type 0
HasSameNumbers steps others = (q p : ℕ) → steps_number steps q p ≡ steps_number others q p
