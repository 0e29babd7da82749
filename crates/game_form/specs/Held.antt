-- Held vectors: those from which some machine, of any size, keeps every lane at or below the bound.
use Rattle.std.specs.Prelude.{◌≡◌, ℕ, ℤ, ◌<◌, ◌≤ℤ◌, List, [], ◌∷◌, length, slice_index_or}
use Rattle.word_core.specs.Machine.{MachineData, IsMachine}
use Rattle.word_core.specs.Play.{Move, IsPlayFrom}
use Rattle.game_form.specs.Game.{GameData, action_of}
use Rattle.game_form.specs.Vector.{AtOrBelow, IsVector, lane, successor}
use Rattle.game_form.specs.Predecessor.{Covered}

-- a machine of the game's player and kind, over its signals
pub record IsMachineOf (g : GameData) (m : MachineData) : Type 0 where
  pub machine : IsMachine m
  pub player : m.player ≡ g.player
  pub kind : m.kind ≡ g.kind
  pub inputs : m.inputs ≡ g.inputs
  pub outputs : m.outputs ≡ g.outputs

-- where a list of moves leads from a vector
abbrev pub after : GameData → List ℤ → List Move → List ℤ
after g v [] = v
after g v (move ∷ moves) = after g (successor g (action_of g move.own move.other) v) moves

-- every lane is at most at the bound
abbrev pub InBound : GameData → List ℤ → Type 0
InBound g v = (q : ℕ) → q < length v → lane v q ≤ℤ g.k

-- along all plays of a machine from one of its states, every lane is at most at the bound, and v's are
abbrev pub KeepsFrom : GameData → MachineData → ℕ → List ℤ → Type 0
KeepsFrom g m s v = (moves : List Move) → IsPlayFrom m s moves → InBound g (after g v moves)

-- v is held
pub record IsHeld (g : GameData) (v : List ℤ) : Type 0 where
  pub vector : IsVector g v
  pub machine : MachineData
  pub fits : IsMachineOf g machine
  pub keeps : KeepsFrom g machine 0 v

-- no member is at or below another one
abbrev pub IsAntichain : List (List ℤ) → Type 0
IsAntichain list =
    (i j : ℕ) → i < length list → j < length list → AtOrBelow (slice_index_or list i []) (slice_index_or list j []) → i ≡ j

-- a list of held vectors, one at or above each held vector, none of them at or below another
pub record HasHeld (g : GameData) (list : List (List ℤ)) : Type 0 where
  pub antichain : IsAntichain list
  pub held : (i : ℕ) → i < length list → IsHeld g (slice_index_or list i [])
  pub all : (v : List ℤ) → IsHeld g v → Covered list v
