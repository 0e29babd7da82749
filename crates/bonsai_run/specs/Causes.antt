-- Why an order is refused, by its texts.
use Rattle.std.specs.Prelude.{◌≡◌, ℕ, ◌<◌, ◌≤◌, Bool, false, Option, List, length}
use Rattle.shelf_io.specs.Texts.{Texts}
use Rattle.tlsf_basic.specs.declared.specifications.Spec.{Spec}
use Rattle.tlsf_basic.specs.Specification.{IsFault, IsSpec, signal_count}
use Rattle.word_core.specs.declared.names.Player.{Player}
use Rattle.word_core.specs.declared.names.Player.TheVariants.{Environment}
use Rattle.word_core.specs.Lasso.{LassoData}
use Rattle.word_core.specs.Machine.{MachineData}
use Rattle.machine_text.specs.declared.errors.MachineError.TheVariants as machine
use Rattle.machine_text.specs.declared.errors.LassoError.TheVariants as lasso
use Rattle.machine_text.specs.Lassos.{HasLassoFault, IsLasso, lasso_text}
use Rattle.machine_text.specs.Machines.{HasMachineFault, Spells}
use Rattle.dual_game.specs.declared.errors.GameError.{GameError}
use Rattle.dual_game.specs.declared.errors.GameError.TheVariants.{TooManyFormulas, TooWide, TooManyStates}
use Rattle.dual_game.specs.Automata.{IsLimitOf, IsLimitOfPair, formula_count}
use Rattle.spec_gen.specs.Arbiter.{arbiter_text}
use Rattle.bonsai_words.specs.Ordered.{Asked}
use Rattle.bonsai_words.specs.Ordered.Asked.{synth, downset, check, eval, gen}
use Rattle.bonsai_run.specs.declared.faults.Source.{Source}
use Rattle.bonsai_run.specs.declared.faults.Source.TheVariants.{Specification, Other}
use Rattle.bonsai_run.specs.declared.faults.Fault.{Fault}
use Rattle.bonsai_run.specs.declared.faults.Fault.TheVariants.{Unread, Text, Line, Gap, NotFirst, Length, Formulas, Covers, States, Memory}
use Rattle.bonsai_run.specs.Faults.{named}
use Rattle.bonsai_run.specs.Texts.{IsUnder, IsSpecOf, IsTooLong}

-- a text that isn't fetched, or that is too long
abbrev pub IsFetchFault : Option Texts → List ℕ → List ℕ → Source → Fault → Type 0
IsFetchFault texts name other source (Unread s) = s ≡ source
IsFetchFault texts name other source (Length s) = (s ≡ source) × IsTooLong texts (named name other source)
IsFetchFault texts name other source Memory = Unit {0}
IsFetchFault texts name other source _ = ⊥

-- ---- once the specification is read

-- a limit that is passed, where this says of each whether it is; or want of memory
abbrev pub ByLimit : (GameError → Type 0) → Fault → Type 0
ByLimit passed Formulas = passed TooManyFormulas
ByLimit passed Covers = passed TooWide
ByLimit passed States = passed TooManyStates
ByLimit passed Memory = Unit {0}
ByLimit passed _ = ⊥

-- the text is that of a machine, for whose player a limit is passed
pub record HasMachineLimit (spec : Spec) (text : List ℕ) (fault : Fault) : Type 0 where
  pub machine : MachineData
  pub spells : Spells spec.names text machine
  pub limit : ByLimit (IsLimitOf spec machine.player) fault

-- a fault of a machine's text, or else a limit
abbrev pub IsCheckFault : Spec → List ℕ → Fault → Type 0
IsCheckFault spec text (Line line) = HasMachineFault spec.names text (machine.Line line)
IsCheckFault spec text (Gap state) = HasMachineFault spec.names text (machine.Gap state)
IsCheckFault spec text (NotFirst state) = HasMachineFault spec.names text (machine.NotFirst state)
IsCheckFault spec text Memory = Unit {0}
IsCheckFault spec text fault = HasMachineLimit spec text fault

-- the text is that of a lasso, and the normal form has too many formulas
pub record HasLassoLimit (spec : Spec) (text : List ℕ) : Type 0 where
  pub word : LassoData
  pub is : IsLasso (signal_count spec.names) word
  pub spells : text ≡ lasso_text (signal_count spec.names) word
  pub many : 512 < formula_count spec Environment

-- a fault of a lasso's text, or else a limit
abbrev pub IsEvalFault : Spec → List ℕ → Fault → Type 0
IsEvalFault spec text (Line line) = HasLassoFault (signal_count spec.names) text (lasso.Line line)
IsEvalFault spec text Formulas = HasLassoLimit spec text
IsEvalFault spec text Memory = Unit {0}
IsEvalFault spec text _ = ⊥

-- a fault that a specification has of the text under a name
pub record IsOfText (texts : Option Texts) (name : List ℕ) (is_of : Spec → List ℕ → Fault → Type 0) (spec : Spec) (fault : Fault) : Type 0 where
  pub text : List ℕ
  pub under : IsUnder texts name text
  pub short : length text ≤ 1048576
  pub why : is_of spec text fault

-- a limit that is passed for one player
pub record HasLimitFor (player : Player) (spec : Spec) (fault : Fault) : Type 0 where
  pub limit : ByLimit (IsLimitOf spec player) fault

-- a fault of a later step
pub record IsLater (texts : Option Texts) (name : List ℕ) (as_written : Bool) (is_of : Spec → Fault → Type 0) (fault : Fault) : Type 0 where
  pub spec : Spec
  pub is : IsSpecOf texts name as_written spec
  pub why : is_of spec fault

-- a specification stands under the name
abbrev pub IsRead : Option Texts → List ℕ → Bool → Type 0
IsRead texts name as_written = (spec : Spec) × IsSpecOf texts name as_written spec

-- ---- the first step that fails

-- a specification that isn't read
abbrev pub IsUnreadable : Option Texts → List ℕ → Bool → Fault → Type 0
IsUnreadable texts name as_written (Unread Specification) = Unit {0}
IsUnreadable texts name as_written (Length Specification) = IsTooLong texts name
IsUnreadable texts name as_written (Text what place) =
    (text : List ℕ) × IsUnder texts name text × (length text ≤ 1048576) × IsFault text as_written what place
IsUnreadable texts name as_written Memory = Unit {0}
IsUnreadable texts name as_written _ = ⊥

-- why an order on a specification is refused, where this says which faults of the later steps a specification has
abbrev pub IsCause : Option Texts → List ℕ → Bool → (Spec → Fault → Type 0) → Fault → Type 0
IsCause texts name as_written is_of (Line line) = IsLater texts name as_written is_of (Line line)
IsCause texts name as_written is_of (Gap state) = IsLater texts name as_written is_of (Gap state)
IsCause texts name as_written is_of (NotFirst state) = IsLater texts name as_written is_of (NotFirst state)
IsCause texts name as_written is_of Formulas = IsLater texts name as_written is_of Formulas
IsCause texts name as_written is_of Covers = IsLater texts name as_written is_of Covers
IsCause texts name as_written is_of States = IsLater texts name as_written is_of States
IsCause texts name as_written is_of fault = IsUnreadable texts name as_written fault

-- the same of an order with a second name, whose text comes after the specification
abbrev pub IsCauseOfTwo : Option Texts → List ℕ → List ℕ → Bool → (Spec → List ℕ → Fault → Type 0) → Fault → Type 0
IsCauseOfTwo texts name other as_written is_of (Unread Other) = IsRead texts name as_written
IsCauseOfTwo texts name other as_written is_of (Length Other) = IsRead texts name as_written × IsTooLong texts other
IsCauseOfTwo texts name other as_written is_of fault = IsCause texts name as_written (IsOfText texts other is_of) fault

-- a limit that the specification with this text passes
pub record HasOwnLimit (text : List ℕ) (fault : Fault) : Type 0 where
  pub spec : Spec
  pub is : IsSpec text false spec
  pub limit : ByLimit (IsLimitOfPair spec) fault

-- why a generated text is refused
abbrev pub IsGenFault : ℕ → Fault → Type 0
IsGenFault clients Memory = Unit {0}
IsGenFault clients fault = HasOwnLimit (arbiter_text clients) fault

-- why an order is refused
abbrev pub IsCauseOf : Option Texts → Asked → Fault → Type 0
IsCauseOf texts (synth name bounds workers as_written) fault = IsCause texts name as_written (λ spec. ByLimit (IsLimitOfPair spec)) fault
IsCauseOf texts (downset name player bound as_written) fault = IsCause texts name as_written (HasLimitFor player) fault
IsCauseOf texts (check name machine bound as_written) fault = IsCauseOfTwo texts name machine as_written IsCheckFault fault
IsCauseOf texts (eval name lasso as_written) fault = IsCauseOfTwo texts name lasso as_written IsEvalFault fault
IsCauseOf texts (gen clients workers) fault = IsGenFault clients fault
