-- The status and the line of each fault.
use Rattle.std.specs.Prelude.{◌≡◌, ℕ, ◌<◌, List, ◌++◌, length, Option, Some, codes, decimal}
use Rattle.shelf_io.specs.Faults.{Rose}
use Rattle.tlsf_lex.specs.declared.tokens.LexFault.{LexFault}
use Rattle.tlsf_lex.specs.declared.tokens.LexFault.TheVariants.{BadByte, OpenComment, NestedComment, OpenString}
use Rattle.tlsf_basic.specs.declared.faults.Part.{Part}
use Rattle.tlsf_basic.specs.declared.faults.Part.TheVariants.{Info, Main, Semantics, Target, Inputs, Outputs}
use Rattle.tlsf_basic.specs.declared.faults.TextFault.{TextFault}
use Rattle.tlsf_basic.specs.declared.faults.TextFault.TheVariants.{Lex, Expected, NeedsParens, TooDeep, FullFormat, MissingPart, DuplicateSignal, UnknownSignal, MixedTarget, TooManySignals}
use Rattle.bonsai_run.specs.declared.faults.Source.{Source}
use Rattle.bonsai_run.specs.declared.faults.Source.TheVariants.{Specification, Other}
use Rattle.bonsai_run.specs.declared.faults.Fault.{Fault}
use Rattle.bonsai_run.specs.declared.faults.Fault.TheVariants.{Unwritten, Usage, Unread, Text, Line, Gap, NotFirst, Length, Formulas, Covers, States, Memory}

abbrev pub status_of : Fault → ℕ
status_of Unwritten = 1
status_of Usage = 2
status_of (Unread source) = 3
status_of (Text what place) = 4
status_of (Line line) = 4
status_of (Gap state) = 4
status_of (NotFirst state) = 4
status_of (Length source) = 5
status_of Formulas = 5
status_of Covers = 5
status_of States = 5
status_of Memory = 6

abbrev pub usage_text : List ℕ
usage_text = codes "usage: bonsai synth NAME [--bound K] [--first K] [--step S] [--workers N] [--as-written]\n       bonsai downset NAME --player system|environment --bound K [--as-written]\n       bonsai check NAME MACHINE --bound K [--as-written]\n       bonsai eval NAME LASSO [--as-written]\n       bonsai gen N [--workers N]\n"

abbrev pub lexical_words : LexFault → List ℕ
lexical_words BadByte = codes "byte not allowed"
lexical_words OpenComment = codes "comment is not closed"
lexical_words NestedComment = codes "comment inside a comment"
lexical_words OpenString = codes "string is not closed"

abbrev pub part_words : Part → List ℕ
part_words Info = codes "missing INFO"
part_words Main = codes "missing MAIN"
part_words Semantics = codes "missing SEMANTICS"
part_words Target = codes "missing TARGET"
part_words Inputs = codes "missing INPUTS"
part_words Outputs = codes "missing OUTPUTS"

abbrev pub fault_words : TextFault → List ℕ
fault_words (Lex what) = lexical_words what
fault_words Expected = codes "not expected here"
fault_words NeedsParens = codes "needs parentheses"
fault_words TooDeep = codes "nested too deeply"
fault_words FullFormat = codes "full format is not read"
fault_words (MissingPart part) = part_words part
fault_words DuplicateSignal = codes "signal declared twice"
fault_words UnknownSignal = codes "unknown signal"
fault_words MixedTarget = codes "semantics and target differ"
fault_words TooManySignals = codes "more than 40 signals"

-- one of an order's two names
abbrev pub named : List ℕ → List ℕ → Source → List ℕ
named name other Specification = name
named name other Other = other

-- a line that begins with a name and tells a number
abbrev pub numbered_text : List ℕ → List ℕ → ℕ → List ℕ → List ℕ
numbered_text name middle number tail = (codes "bonsai: " ++ (name ++ middle)) ++ (decimal number ++ (codes ": " ++ (tail ++ codes "\n")))

-- the text of a fault of an order with these two names
abbrev pub fault_text : List ℕ → List ℕ → Fault → List ℕ
fault_text name other Unwritten = codes "bonsai: cannot write\n"
fault_text name other Usage = usage_text
fault_text name other (Unread source) = codes "bonsai: cannot read " ++ named name other source ++ codes "\n"
fault_text name other (Text what place) = numbered_text name (codes ": byte ") place (fault_words what)
fault_text name other (Line line) = numbered_text other (codes ": line ") line (codes "not expected here")
fault_text name other (Gap state) = numbered_text other (codes ": state ") state (codes "input without a line")
fault_text name other (NotFirst state) = numbered_text other (codes ": state ") state (codes "own choice depends on the input")
fault_text name other (Length source) = codes "bonsai: limit: length " ++ named name other source ++ codes "\n"
fault_text name other Formulas = codes "bonsai: limit: formulas\n"
fault_text name other Covers = codes "bonsai: limit: covers\n"
fault_text name other States = codes "bonsai: limit: states\n"
fault_text name other Memory = codes "bonsai: out of memory\n"

-- a fault that comes behind the words and before the writing; an unread text raised the shelf's count, and its name, which isn't empty, is the last that failed
abbrev pub Blames : ℕ → ℕ → Option (List ℕ) → List ℕ → List ℕ → Fault → Type 0
Blames before now last name other Unwritten = ⊥
Blames before now last name other Usage = ⊥
Blames before now last name other (Unread source) = Rose before now × (last ≡ Some (named name other source)) × (0 < length (named name other source))
Blames before now last name other _ = Unit {0}

-- a fault that no fetch gives
abbrev pub IsInner : Fault → Type 0
IsInner Unwritten = ⊥
IsInner Usage = ⊥
IsInner (Unread source) = ⊥
IsInner _ = Unit {0}
