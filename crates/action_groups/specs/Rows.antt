-- The rows of actions are those of their letters.
use Rattle.std.specs.Prelude.{◌≡◌, ℕ, ◌<◌, ◌^◌, ◌&&◌, List, [], ◌∷◌, length, map, max, nat_eq, if◌then◌else◌}
use Rattle.word_core.specs.declared.automata.Edge.{Edge}
use Rattle.word_core.specs.Automaton.{AutomatonData, edges_at}
use Rattle.word_core.specs.Cube.{holds, IsCube}
use Rattle.word_core.specs.Play.{letter_of}
use Rattle.game_form.specs.Game.{GameData, own_width, other_width, action_at, action_of, row_at}
use Rattle.game_form.specs.Vector.{number}
use Rattle.std.specs.List.{All, filter}
use Rattle.action_groups.specs.declared.ways.Way.{Way}
use Rattle.action_groups.specs.Numbers.{mark_number, step_of, steps_number}

-- the number of a letter's edges to a state: 2 where a marked one holds it, 1 where only others do, else 0
abbrev pub edge_number : List Edge → ℕ → ℕ → ℕ
edge_number [] bits p = 0
edge_number (e ∷ edges) bits p = max (if holds e.cube bits && nat_eq e.next p then mark_number e.marked else 0) (edge_number edges bits p)

-- under the action of a letter, each lane's number at another lane is that of the letter's edges
abbrev pub HasRows : AutomatonData → GameData → Type 0
HasRows a g =
    (own other q p : ℕ) → own < 2 ^ own_width g → other < 2 ^ other_width g → q < length a.states
    → number (row_at (action_at g (action_of g own other)) q) p ≡ edge_number (edges_at a q) (letter_of g.player g.inputs (record { own = own; other = other })) p

abbrev pub way_from : ℕ → Edge → Way
way_from q e = record { from = q; edge = e }

-- the edges of an automaton: those that hold a letter have its numbers, and each has a cube over the signals
pub record HasEdges (a : AutomatonData) (ways : List Way) : Type 0 where
  pub cubes : All (λ w. IsCube a.signals w.edge.cube) ways
  pub numbers : (bits q p : ℕ) → q < length a.states → steps_number (map step_of (filter (λ w. holds w.edge.cube bits) ways)) q p ≡ edge_number (edges_at a q) bits p
