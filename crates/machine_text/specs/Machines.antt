-- The text of a machine, and which machine a text spells.
use Rattle.std.specs.Prelude.{◌≡◌, ℕ, ◌+◌, ◌<◌, ◌^◌, List, [], ◌∷◌, ◌++◌, length, codes, Option, Some, None, ⊤}
use Rattle.std.specs.List.{All}
use Rattle.std.specs.Fmt.{decimal}
use Rattle.std.specs.String.{string_bytes}
use Rattle.std.proofs.Common.{String, Global}
use Rattle.word_core.specs.declared.names.Kind.{Kind}
use Rattle.word_core.specs.declared.names.Kind.TheVariants.{First, Second}
use Rattle.word_core.specs.declared.names.Names.{Names}
use Rattle.word_core.specs.declared.names.Player.{Player}
use Rattle.word_core.specs.declared.names.Player.TheVariants.{System, Environment}
use Rattle.word_core.specs.declared.names.Target.{Target}
use Rattle.word_core.specs.declared.names.Target.TheVariants.{Mealy, Moore}
use Rattle.word_core.specs.declared.machines.Line.{Line}
use Rattle.word_core.specs.declared.machines.MachineFault.TheVariants as fault
use Rattle.word_core.specs.Machine.{MachineData, IsLine, HasFault, own_of, other_of}
use Rattle.machine_text.specs.declared.errors.MachineError.{MachineError}
use Rattle.machine_text.specs.declared.errors.MachineError.TheVariants as error
use Rattle.machine_text.specs.Fields.{valuation, pattern}
use Rattle.machine_text.specs.Lines.{joined, IsWhole, IsBadLine}

abbrev pub player_word : Player → List ℕ
player_word System = codes "system"
player_word Environment = codes "environment"

abbrev pub kind_word : Kind → List ℕ
kind_word First = codes "first"
kind_word Second = codes "second"

-- the names of one side, each after a space
abbrev pub spaced : List (String Global) → List ℕ
spaced [] = []
spaced (name ∷ names) = 32 ∷ string_bytes name ++ spaced names

-- the line of a player and a kind
abbrev pub owner_text : Player → Kind → List ℕ
owner_text player kind = codes "machine " ++ player_word player ++ 32 ∷ kind_word kind

-- the line of a word and names
abbrev pub names_text : List ℕ → List (String Global) → List ℕ
names_text word names = word ++ spaced names

-- the line of a number of states
abbrev pub count_text : ℕ → List ℕ
count_text count = codes "states " ++ decimal count

-- a line of a state
abbrev pub line_text : ℕ → ℕ → ℕ → Line → List ℕ
line_text own others s l =
    decimal s ++ 32 ∷ pattern others l.when ++ codes " -> " ++ valuation own l.own ++ 32 ∷ decimal l.next

-- the lines of a state
abbrev pub state_lines : ℕ → ℕ → ℕ → List Line → List (List ℕ)
state_lines own others s [] = []
state_lines own others s (l ∷ ls) = line_text own others s l ∷ state_lines own others s ls

-- the lines of the states from number s on
abbrev pub states_lines : ℕ → ℕ → ℕ → List (List Line) → List (List ℕ)
states_lines own others s [] = []
states_lines own others s (ls ∷ rest) = state_lines own others s ls ++ states_lines own others (s + 1) rest

-- the four lines before the states' lines
abbrev pub head_lines : Names → Player → Kind → ℕ → List (List ℕ)
head_lines names player kind count =
    owner_text player kind
    ∷ names_text (codes "inputs") names.inputs.items
    ∷ names_text (codes "outputs") names.outputs.items
    ∷ count_text count ∷ []

-- the lines of a machine
abbrev pub machine_lines : Names → MachineData → List (List ℕ)
machine_lines names m =
    head_lines names m.player m.kind (length m.states) ++ states_lines (own_of m) (other_of m) 0 m.states

abbrev pub machine_text : Names → MachineData → List ℕ
machine_text names m = joined (machine_lines names m)

-- the order of moves of a player's machines under a target
abbrev pub kind_of : Target → Player → Kind
kind_of Mealy System = Second
kind_of Mealy Environment = First
kind_of Moore System = First
kind_of Moore Environment = Second

-- the line of a verdict
abbrev pub verdict_text : Player → List ℕ
verdict_text System = codes "REALIZABLE"
verdict_text Environment = codes "UNREALIZABLE"

-- the line of a bound
abbrev pub bound_text : ℕ → List ℕ
bound_text bound = codes "bound " ++ decimal bound

-- the two lines that may stand before a machine: a verdict and a bound
abbrev pub heading_lines : Option (Player × ℕ) → List (List ℕ)
heading_lines None = []
heading_lines (Some h) = verdict_text h.0 ∷ bound_text h.1 ∷ []

-- the bound is a number of 64 bits
abbrev pub IsHeading : Option (Player × ℕ) → Type 0
IsHeading None = ⊤
IsHeading (Some h) = h.1 < 2 ^ 64

-- lines over the names and for a player whose kind fits the target. A state may be without lines, and valuations without one
pub record IsDraft (names : Names) (m : MachineData) : Type 0 where
  pub kind : m.kind ≡ kind_of names.target m.player
  pub inputs : m.inputs ≡ length names.inputs.items
  pub outputs : m.outputs ≡ length names.outputs.items
  pub begins : 0 < length m.states
  pub counted : length m.states < 2 ^ 64
  pub ranged : All (All (IsLine (own_of m) (other_of m) (length m.states))) m.states

-- the grammar: these are the lines of some draft, before which a verdict and a bound may stand
abbrev pub IsMachineLines : Names → List (List ℕ) → Type 0
IsMachineLines names lines =
    (heading : Option (Player × ℕ)) × (m : MachineData) × IsHeading heading × IsDraft names m × (lines ≡ heading_lines heading ++ machine_lines names m)

-- a text spells a draft, from its line `machine` on
abbrev pub Spells : Names → List ℕ → MachineData → Type 0
Spells names text m =
    (heading : Option (Player × ℕ)) × IsHeading heading × IsDraft names m × (text ≡ joined (heading_lines heading) ++ machine_text names m)

-- why a text gives no machine: its first line that isn't as the grammar says, or what the draft that it spells lacks
abbrev pub HasMachineFault : Names → List ℕ → MachineError → Type 0
HasMachineFault names text (error.Line n) = IsBadLine (IsMachineLines names) text n
HasMachineFault names text (error.Gap s) = (m : MachineData) × Spells names text m × HasFault m (fault.Gap s)
HasMachineFault names text (error.NotFirst s) = (m : MachineData) × Spells names text m × HasFault m (fault.NotFirst s)
HasMachineFault names text error.Memory = ⊤

-- no name has a line feed
abbrev pub AreWhole : List (String Global) → Type 0
AreWhole names = All (λ name. IsWhole (string_bytes name)) names
