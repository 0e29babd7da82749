-- Predecessors of a list of vectors, in terms of single valuations.
use Rattle.std.specs.Prelude.{ℕ, ℤ, ◌^◌, ◌<◌, List, [], length, slice_index_or}
use Rattle.word_core.specs.declared.names.Kind.{Kind}
use Rattle.word_core.specs.declared.names.Kind.TheVariants.{First, Second}
use Rattle.game_form.specs.Game.{GameData, own_width, other_width, action_of}
use Rattle.game_form.specs.Vector.{AtOrBelow, IsVector, successor}

-- some member of a list is at or above v
abbrev pub Covered : List (List ℤ) → List ℤ → Type 0
Covered list v = (i : ℕ) × (i < length list) × AtOrBelow v (slice_index_or list i [])

-- under a letter the successor of f is at or below a member of the list
abbrev pub Works : GameData → List (List ℤ) → List ℤ → ℕ → ℕ → Type 0
Works g list f own other = Covered list (successor g (action_of g own other) f)

-- for each valuation of the other some own valuation works
abbrev pub HasAnswers : GameData → List (List ℤ) → List ℤ → Type 0
HasAnswers g list f =
    (other : ℕ) → other < 2 ^ other_width g → (own : ℕ) × (own < 2 ^ own_width g) × Works g list f own other

-- some own valuation works at every valuation of the other
abbrev pub HasChoice : GameData → List (List ℤ) → List ℤ → Type 0
HasChoice g list f =
    (own : ℕ) × (own < 2 ^ own_width g) × ((other : ℕ) → other < 2 ^ other_width g → Works g list f own other)

-- the player can answer one step from f so that the successor is at or below a member of the list
abbrev pub by_kind : Kind → Type 0 → Type 0 → Type 0
by_kind First choice answers = choice
by_kind Second choice answers = answers

abbrev pub InPredecessor : GameData → List (List ℤ) → List ℤ → Type 0
InPredecessor g list f = by_kind g.kind (HasChoice g list f) (HasAnswers g list f)

-- each member is a vector of the game and in the predecessor of the list
abbrev pub Closed : GameData → List (List ℤ) → Type 0
Closed g list =
    (i : ℕ) → i < length list → IsVector g (slice_index_or list i []) × InPredecessor g list (slice_index_or list i [])
