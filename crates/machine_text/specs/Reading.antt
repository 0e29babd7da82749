-- The lines of machines, as they are read one after another.
use Rattle.std.specs.Prelude.{◌≡◌, ℕ, zero, suc, ◌+◌, ◌<◌, ◌≤◌, ◌^◌, nat_eq, List, [], ◌∷◌, ◌++◌, length, codes, if◌then◌else◌, Option, ⊤}
use Rattle.std.specs.List.{All}
use Rattle.std.specs.Fmt.{decimal}
use Rattle.word_core.specs.declared.names.Kind.{Kind}
use Rattle.word_core.specs.declared.names.Player.{Player}
use Rattle.word_core.specs.declared.names.Target.{Target}
use Rattle.word_core.specs.declared.machines.Line.{Line}
use Rattle.word_core.specs.declared.machines.MachineFault.TheVariants as fault
use Rattle.word_core.specs.Machine.{MachineData, IsLine, HasFault}
use Rattle.machine_text.specs.declared.errors.MachineError.{MachineError}
use Rattle.machine_text.specs.declared.errors.MachineError.TheVariants as error
use Rattle.machine_text.specs.declared.reading.Entry.{Entry}
use Rattle.machine_text.specs.Lines.{joined, NextIsNone}
use Rattle.machine_text.specs.Machines.{kind_of, owner_text, verdict_text, bound_text, count_text, line_text, heading_lines, IsHeading}

-- a line of one of so many states, over these widths
abbrev pub IsEntry : ℕ → ℕ → ℕ → Entry → Type 0
IsEntry own others count e = (e.state < count) × IsLine own others count e.line

-- a line is that of a player whose kind fits the target
abbrev pub IsOwnerLine : Target → List ℕ → Type 0
IsOwnerLine target line = (player : Player) × (line ≡ owner_text player (kind_of target player))

abbrev pub IsVerdictLine : List ℕ → Type 0
IsVerdictLine line = (player : Player) × (line ≡ verdict_text player)

-- a line is a word and a number of 64 bits
abbrev pub IsNumberLine : List ℕ → List ℕ → Type 0
IsNumberLine word line = (n : ℕ) × (n < 2 ^ 64) × (line ≡ word ++ decimal n)

-- a line is that of a number of states
abbrev pub IsCountLine : List ℕ → Type 0
IsCountLine line = (n : ℕ) × (0 < n) × (n < 2 ^ 64) × (line ≡ count_text n)

-- a line is that of a state from the given one on
abbrev pub IsEntryLine : ℕ → ℕ → ℕ → ℕ → List ℕ → Type 0
IsEntryLine own others from count line =
    (s : ℕ) × (l : Line) × (from ≤ s) × (s < count) × IsLine own others count l × (line ≡ line_text own others s l)

-- a text up to the line of a player
pub record IsLed (target : Target) (player : Player) (kind : Kind) (text rest : List ℕ) (taken taken' : ℕ) : Type 0 where
  pub heading : Option (Player × ℕ)
  pub bounded : IsHeading heading
  pub fits : kind ≡ kind_of target player
  pub parts : text ≡ joined (heading_lines heading ++ owner_text player kind ∷ []) ++ rest
  pub place : taken' ≡ taken + length (heading_lines heading) + 1

-- where the line of a player isn't found: at once, behind a verdict, or behind a bound
pub data HasNoOwner (target : Target) (text : List ℕ) (taken : ℕ) : ℕ → Type 0 where
  at_once : NextIsNone IsVerdictLine text → NextIsNone (IsOwnerLine target) text → HasNoOwner target text taken (taken + 1)
  no_bound : (player : Player) (rest : List ℕ) → text ≡ verdict_text player ++ 10 ∷ rest → NextIsNone (IsNumberLine (codes "bound ")) rest → HasNoOwner target text taken (taken + 2)
  no_owner : (player : Player) (bound : ℕ) (rest : List ℕ) → bound < 2 ^ 64 → text ≡ verdict_text player ++ 10 ∷ (bound_text bound ++ 10 ∷ rest) → NextIsNone (IsOwnerLine target) rest
      → HasNoOwner target text taken (taken + 3)

-- the lines of entries
abbrev pub entry_lines : ℕ → ℕ → List Entry → List (List ℕ)
entry_lines own others [] = []
entry_lines own others (e ∷ es) = line_text own others e.state e.line ∷ entry_lines own others es

-- entries stand in ascending order of state
abbrev pub Ascends : ℕ → List Entry → Type 0
Ascends from [] = ⊤
Ascends from (e ∷ es) = (from ≤ e.state) × Ascends e.state es

-- the state of the last entry
abbrev pub last_state : ℕ → List Entry → ℕ
last_state from [] = from
last_state from (e ∷ es) = last_state e.state es

-- the lines of a state at the head of entries, and the entries behind them
abbrev pub first_lines : ℕ → List Entry → List Line
first_lines s [] = []
first_lines s (e ∷ es) = if nat_eq e.state s then e.line ∷ first_lines s es else []

abbrev pub behind_state : ℕ → List Entry → List Entry
behind_state s [] = []
behind_state s (e ∷ es) = if nat_eq e.state s then behind_state s es else e ∷ es

-- the lines of so many states from number s on
abbrev pub spread : ℕ → ℕ → List Entry → List (List Line)
spread s zero es = []
spread s (suc n) es = first_lines s es ∷ spread (s + 1) n (behind_state s es)

-- entries as they are read, in line taken' - 1
pub record AreRead (own others count : ℕ) (text rest : List ℕ) (taken taken' : ℕ) (es : List Entry) : Type 0 where
  pub ranged : All (IsEntry own others count) es
  pub ascends : Ascends 0 es
  pub parts : text ≡ joined (entry_lines own others es) ++ rest
  pub place : taken' ≡ taken + length es

-- behind some entries stands something else than a further one
abbrev pub HasEntryFault : ℕ → ℕ → ℕ → List ℕ → ℕ → MachineError → Type 0
HasEntryFault own others count text taken (error.Line n) =
    (es : List Entry) × (rest : List ℕ) × (before : ℕ) × AreRead own others count text rest taken before es × (n ≡ before + 1) × (rest ≡ [] → ⊥) × NextIsNone (IsEntryLine own others (last_state 0 es) count) rest
HasEntryFault own others count text taken (error.Gap s) = ⊥
HasEntryFault own others count text taken (error.NotFirst s) = ⊥
HasEntryFault own others count text taken error.Memory = ⊤

-- what a draft lacks
abbrev pub HasMakeFault : MachineData → MachineError → Type 0
HasMakeFault m (error.Line n) = ⊥
HasMakeFault m (error.Gap s) = HasFault m (fault.Gap s)
HasMakeFault m (error.NotFirst s) = HasFault m (fault.NotFirst s)
HasMakeFault m error.Memory = ⊤

-- the first states, as far as each has a line; the next one has none
pub record AreGrouped (count : ℕ) (es : List Entry) (states : List (List Line)) : Type 0 where
  pub few : length states ≤ count
  pub missing : List (List Line)
  pub all : spread 0 count es ≡ states ++ missing
  pub next : length states < count → (more : List (List Line)) × (missing ≡ [] ∷ more)
