-- What holds of a specification.
use Rattle.std.specs.Prelude.{◌≡◌, ℕ, ◌+◌, ◌≤◌, Bool, false, List, [], ◌∷◌, ◌++◌, map, length, slice_get, string_bytes, Some, Result, Ok, Err}
use Rattle.word_core.specs.declared.names.Names.{Names}
use Rattle.tlsf_lex.specs.declared.tokens.LexFault.{LexFault}
use Rattle.tlsf_lex.specs.declared.tokens.Token.{Token}
use Rattle.tlsf_lex.specs.Tokens.{tokens_of}
use Rattle.tlsf_lex.specs.declared.tokens.LexError.{LexError}
use Rattle.tlsf_lex.specs.declared.tokens.LexError.TheVariants as lexical
use Rattle.tlsf_basic.specs.declared.faults.TextFault.{TextFault}
use Rattle.tlsf_basic.specs.declared.faults.TextFault.TheVariants.{Lex, DuplicateSignal, UnknownSignal, MixedTarget, TooManySignals}
use Rattle.tlsf_basic.specs.declared.symbols.Lexeme.{Lexeme}
use Rattle.tlsf_basic.specs.Reads.{Halt}
use Rattle.tlsf_basic.specs.declared.faults.TextError.{TextError}
use Rattle.tlsf_basic.specs.declared.faults.TextError.TheVariants.{Fault, Memory}
use Rattle.tlsf_basic.specs.declared.headings.Heading.{Heading}
use Rattle.tlsf_basic.specs.declared.mains.Sections.{Sections}
use Rattle.tlsf_basic.specs.declared.specifications.Spec.{Spec}
use Rattle.tlsf_basic.specs.declared.words.Zone.TheVariants as zone
use Rattle.tlsf_basic.specs.Words.{lexemes_of}
use Rattle.tlsf_basic.specs.Signals.{inputs_of, outputs_of, name_of, numbered, IsFirst, IsNever, is_repeated, is_undeclared}
use Rattle.tlsf_basic.specs.Composition.{formula_of}
use Rattle.tlsf_basic.specs.TextGrammar.{IsText}
use Rattle.tlsf_basic.specs.TextFaults.{IsGrammarFault}

abbrev pub signal_count : Names → ℕ
signal_count names = length names.inputs.items + length names.outputs.items

-- a fault stands at a byte of a text of this length, or at its end
abbrev pub IsPlaced : ℕ → TextError → Type 0
IsPlaced len (Fault what place) = place ≤ len
IsPlaced len Memory = Unit {0}

-- the error of a text without tokens
abbrev pub text_error : LexError → TextError
text_error (lexical.Fault what place) = Fault (Lex what) place
text_error lexical.Memory = Memory

-- where these tokens begin in a text of this length
abbrev pub place_of : ℕ → List Lexeme → ℕ
place_of len [] = len
place_of len (t ∷ ts) = t.from

-- what reading gives, a stop being a fault at its place
abbrev pub GivesPlaced : {A : Type 0} → ℕ → Result A TextError → Result A Halt → Type 0
GivesPlaced len (Ok x) read = read ≡ Ok x
GivesPlaced len (Err (Fault what place)) read = (rest : List Lexeme) × (read ≡ Err (what, rest)) × (place ≡ place_of len rest)
GivesPlaced len (Err Memory) read = Unit {0}

-- the tokens of a text as the grammar sees them, without the numbers of the names in formulas
abbrev pub IsLexed : List ℕ → List Lexeme → Type 0
IsLexed text v = (ts : List Token) × (tokens_of text ≡ Ok ts) × (v ≡ lexemes_of text zone.Heading ts)

-- the target is the kind of the semantics, or it needn't be
abbrev pub Agrees : Bool → Heading → Type 0
Agrees as_written heading = as_written ≡ false → heading.target.target ≡ heading.semantics.kind

-- the declared names, the inputs counted first
abbrev pub all_declared : List Lexeme → List Lexeme
all_declared v = inputs_of v ++ outputs_of v

-- a fault of the names in tokens that are a text of the grammar, and its place
pub data IsNameFault (text : List ℕ) (w : List Lexeme) : TextFault → ℕ → Type 0 where
  repeated : (l : Lexeme) → IsFirst (is_repeated text) w l → IsNameFault text w DuplicateSignal l.from
  undeclared : (l : Lexeme) → IsNever (is_repeated text) w → IsFirst is_undeclared w l → IsNameFault text w UnknownSignal l.from

-- each name is declared once, and each name of a formula is declared
abbrev pub AreNamed : List ℕ → List Lexeme → Type 0
AreNamed text w = IsNever (is_repeated text) w × IsNever is_undeclared w

-- why a text is no specification, and the byte at which the fault stands: the first of these by their order
pub data IsFault (text : List ℕ) (as_written : Bool) : TextFault → ℕ → Type 0 where
  no_tokens : (what : LexFault) (place : ℕ) → tokens_of text ≡ Err (what, place) → IsFault text as_written (Lex what) place
  no_text : (v : List Lexeme) (what : TextFault) (rest : List Lexeme) → IsLexed text v → IsGrammarFault (numbered text v) what rest → IsFault text as_written what (place_of (length text) rest)
  of_names : (v : List Lexeme) (heading : Heading) (all : Sections) (what : TextFault) (place : ℕ) → IsLexed text v → IsText 256 (numbered text v) (heading, all)
      → IsNameFault text (numbered text v) what place → IsFault text as_written what place
  of_target : (v : List Lexeme) (heading : Heading) (all : Sections) → IsLexed text v → IsText 256 (numbered text v) (heading, all) → AreNamed text (numbered text v)
      → as_written ≡ false → (heading.target.target ≡ heading.semantics.kind → ⊥) → IsFault text as_written MixedTarget heading.target.place
  of_number : (v : List Lexeme) (heading : Heading) (all : Sections) (l : Lexeme) → IsLexed text v → IsText 256 (numbered text v) (heading, all) → AreNamed text (numbered text v)
      → Agrees as_written heading → slice_get (all_declared v) 40 ≡ Some l → IsFault text as_written TooManySignals l.from

-- the text is of the grammar, its names are declared once and are few, its target agrees with its semantics, and these are its names and its formula
pub record IsSpec (text : List ℕ) (as_written : Bool) (spec : Spec) : Type 0 where
  pub lexemes : List Lexeme
  pub heading : Heading
  pub sections : Sections
  pub lexed : IsLexed text lexemes
  pub read : IsText 256 (numbered text lexemes) (heading, sections)
  pub named : AreNamed text (numbered text lexemes)
  pub agrees : Agrees as_written heading
  pub few : length (all_declared lexemes) ≤ 40
  pub inputs : map string_bytes spec.names.inputs.items ≡ map (name_of text) (inputs_of lexemes)
  pub outputs : map string_bytes spec.names.outputs.items ≡ map (name_of text) (outputs_of lexemes)
  pub target : spec.names.target ≡ heading.target.target
  pub formula : spec.formula ≡ formula_of heading.semantics.strict sections

-- a refusal tells the fault, unless memory ran out
abbrev pub IsRefused : List ℕ → Bool → TextError → Type 0
IsRefused text as_written (Fault what place) = IsFault text as_written what place
IsRefused text as_written Memory = Unit {0}

abbrev pub IsNameRefused : List ℕ → List Lexeme → TextError → Type 0
IsNameRefused text w (Fault what place) = IsNameFault text w what place
IsNameRefused text w Memory = Unit {0}

abbrev pub IsTargetRefused : Bool → Heading → TextError → Type 0
IsTargetRefused as_written heading (Fault what place) = (what ≡ MixedTarget) × (place ≡ heading.target.place) × (as_written ≡ false) × (heading.target.target ≡ heading.semantics.kind → ⊥)
IsTargetRefused as_written heading Memory = Unit {0}

abbrev pub IsNumberRefused : List Lexeme → TextError → Type 0
IsNumberRefused names (Fault what place) = (what ≡ TooManySignals) × (l : Lexeme) × (slice_get names 40 ≡ Some l) × (place ≡ l.from)
IsNumberRefused names Memory = Unit {0}
