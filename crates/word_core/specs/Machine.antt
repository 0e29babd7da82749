-- Machines of a player: in each state the first line that holds the other's valuation decides.
use Rattle.std.specs.Prelude.{◌≡◌, ℕ, ◌+◌, ◌<◌, ◌≤◌, ◌^◌, List, [], ◌∷◌, length, slice_index_or, Option, Some, None, IsSome, if◌then◌else◌}
use Rattle.std.specs.List.{All}
use Rattle.word_core.specs.declared.names.Kind.{Kind}
use Rattle.word_core.specs.declared.names.Kind.TheVariants.{First}
use Rattle.word_core.specs.declared.names.Player.{Player}
use Rattle.word_core.specs.declared.names.Player.TheVariants.{System, Environment}
use Rattle.word_core.specs.declared.machines.Line.{Line}
use Rattle.word_core.specs.declared.machines.MachineFault.{MachineFault}
use Rattle.word_core.specs.declared.machines.MachineFault.TheVariants.{Empty, Range, Gap, NotFirst}
use Rattle.word_core.specs.Cube.{holds, IsCube}

pub record MachineData : Type 0 where
  pub player : Player
  pub kind : Kind
  pub inputs : ℕ
  pub outputs : ℕ
  pub states : List (List Line)

-- a player's own signals are the outputs for the system, the inputs for the environment
abbrev pub own_width : Player → ℕ → ℕ → ℕ
own_width System inputs outputs = outputs
own_width Environment inputs outputs = inputs

-- the other side's signals are the rest
abbrev pub other_width : Player → ℕ → ℕ → ℕ
other_width System inputs outputs = inputs
other_width Environment inputs outputs = outputs

abbrev pub own_of : MachineData → ℕ
own_of m = own_width m.player m.inputs m.outputs

abbrev pub other_of : MachineData → ℕ
other_of m = other_width m.player m.inputs m.outputs

-- the lines of a state
abbrev pub lines_at : MachineData → ℕ → List Line
lines_at m s = slice_index_or m.states s []

-- the line that decides: the first one that holds the other's valuation
abbrev pub choice : List Line → ℕ → Option Line
choice [] other = None
choice (l ∷ ls) other = if holds l.when other then Some l else choice ls other

-- a line over these widths, whose next is one of so many states
abbrev pub IsLine : ℕ → ℕ → ℕ → Line → Type 0
IsLine own others count l = IsCube others l.when × (l.own < 2 ^ own) × (l.next < count)

-- every valuation of the other is held by some line
abbrev pub IsDecided : ℕ → List Line → Type 0
IsDecided others lines = (x : ℕ) → x < 2 ^ others → IsSome (choice lines x)

-- all lines have one own valuation
abbrev pub HasOneOwn : List Line → Type 0
HasOneOwn lines = (d : Line) (i j : ℕ) → i < length lines → j < length lines → (slice_index_or lines i d).own ≡ (slice_index_or lines j d).own

-- the machines: at least one state, at most 64 signals, lines within the widths, each valuation decided, and under First one own valuation a state
pub record IsMachine (m : MachineData) : Type 0 where
  pub begins : 0 < length m.states
  pub narrow : m.inputs + m.outputs ≤ 64
  pub ranged : All (All (IsLine (own_of m) (other_of m) (length m.states))) m.states
  pub decided : All (IsDecided (other_of m)) m.states
  pub first : m.kind ≡ First → All HasOneOwn m.states

-- state s is the least one whose lines lack a property
abbrev pub IsLeastWithout : (List Line → Type 0) → List (List Line) → ℕ → Type 0
IsLeastWithout P states s =
    (s < length states) × (P (slice_index_or states s []) → ⊥) × ((t : ℕ) → t < s → P (slice_index_or states t []))

-- why there is no such machine: the first of the four faults, each with its least state
abbrev pub HasFault : MachineData → MachineFault → Type 0
HasFault m Empty = m.states ≡ []
HasFault m (Range s) = IsLeastWithout (All (IsLine (own_of m) (other_of m) (length m.states))) m.states s
HasFault m (Gap s) =
    All (All (IsLine (own_of m) (other_of m) (length m.states))) m.states × IsLeastWithout (IsDecided (other_of m)) m.states s
HasFault m (NotFirst s) =
    All (All (IsLine (own_of m) (other_of m) (length m.states))) m.states
    × All (IsDecided (other_of m)) m.states
    × (m.kind ≡ First)
    × IsLeastWithout HasOneOwn m.states s
