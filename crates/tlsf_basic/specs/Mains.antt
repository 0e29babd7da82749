-- Reading the second part, and the whole text.
use Rattle.std.specs.Prelude.{ℕ, true, not, List, Result, Ok, Err, drop, length, if◌then◌else◌}
use Rattle.tlsf_basic.specs.declared.faults.Part.TheVariants as part
use Rattle.tlsf_basic.specs.declared.faults.TextFault.TheVariants.{MissingPart}
use Rattle.tlsf_basic.specs.declared.symbols.Section.{Section}
use Rattle.tlsf_basic.specs.declared.symbols.Symbol.{Symbol}
use Rattle.tlsf_basic.specs.declared.symbols.Symbol.TheVariants as s
use Rattle.tlsf_basic.specs.declared.symbols.Lexeme.{Lexeme}
use Rattle.tlsf_basic.specs.declared.mains.Sections.{Sections}
use Rattle.tlsf_basic.specs.declared.mains.Parts.{Parts}
use Rattle.tlsf_basic.specs.declared.headings.Heading.{Heading}
use Rattle.tlsf_basic.specs.Reads.{Halt, Read, Past, ◌>>=◌, front, unexpected, turns, passes}
use Rattle.tlsf_basic.specs.Marks.{mark, closing, is_declared, is_semicolon, is_open_brace, is_close_brace, is_main, in_braces, part_word, end}
use Rattle.tlsf_basic.specs.Formulas.{nested, read_formula}
use Rattle.tlsf_basic.specs.Headings.{read_heading}
use Rattle.tlsf_basic.specs.Values.{added, no_parts}

-- a name with `;`
abbrev pub name_turn : List Lexeme → Past
name_turn w = mark is_declared w >>= mark is_semicolon

unfoldable pub read_names : List Lexeme → Past
read_names w = passes in_braces name_turn (length w) w

-- names in braces
unfoldable pub read_declared : List Lexeme → Past
read_declared w = mark is_open_brace w >>= read_names >>= mark is_close_brace

-- a formula with `;`, where so many levels of nesting are allowed
unfoldable pub read_entry : ℕ → Section → Sections → List Lexeme → Read Sections
read_entry n section all w =
    read_formula (nested n) w >>= λ r. closing is_semicolon r.1 >>= λ v. Ok (added section r.0 all, v)

unfoldable pub read_entries : ℕ → Section → Sections → List Lexeme → Read Sections
read_entries n section all w = turns in_braces (read_entry n section) (length w) all w

unfoldable pub read_inputs : Parts → List Lexeme → Read Parts
read_inputs parts w =
    (if parts.inputs then unexpected w else read_declared (drop 1 w) >>= λ v. Ok (record parts { inputs = true }, v))

unfoldable pub read_outputs : Parts → List Lexeme → Read Parts
read_outputs parts w =
    (if parts.outputs then unexpected w else read_declared (drop 1 w) >>= λ v. Ok (record parts { outputs = true }, v))

unfoldable pub read_section : ℕ → Section → Parts → List Lexeme → Read Parts
read_section n section parts w =
    mark is_open_brace (drop 1 w) >>= λ v. read_entries n section parts.sections v
    >>= λ r. mark is_close_brace r.1 >>= λ u. Ok (record parts { sections = r.0 }, u)

abbrev pub part_by : ℕ → Symbol → Parts → List Lexeme → Read Parts
part_by n s.Inputs parts w = read_inputs parts w
part_by n s.Outputs parts w = read_outputs parts w
part_by n (s.Section section) parts w = read_section n section parts w
part_by n _ parts w = unexpected w

-- signals of a side that hasn't stood before, or a section
unfoldable pub read_part : ℕ → Parts → List Lexeme → Read Parts
read_part n parts w = part_by n (front w) parts w

unfoldable pub read_parts : ℕ → List Lexeme → Read Parts
read_parts n w = turns in_braces (read_part n) (length w) no_parts w

-- the closing brace, where the parts are whole
unfoldable pub close_main : Parts → List Lexeme → Read Sections
close_main parts w =
    (if in_braces (front w) then unexpected w
    else (if not parts.inputs then Err (MissingPart part.Inputs, w)
    else (if not parts.outputs then Err (MissingPart part.Outputs, w)
    else Ok (parts.sections, drop 1 w))))

unfoldable pub read_main : ℕ → List Lexeme → Read Sections
read_main n w = part_word is_main part.Main w >>= mark is_open_brace >>= read_parts n >>= λ r. close_main r.0 r.1

-- a whole text
unfoldable pub read_text : ℕ → List Lexeme → Result (Heading × Sections) Halt
read_text n w = read_heading w >>= λ r. read_main n r.1 >>= λ q. end q.1 >>= λ _. Ok (r.0, q.0)
