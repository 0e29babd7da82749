-- Reading the first part.
use Rattle.std.specs.Prelude.{true, false, List, [], ◌∷◌, Option, Some, None, is_some, Ok, Err, drop, length, if◌then◌else◌}
use Rattle.word_core.specs.declared.names.Target.{Target}
use Rattle.tlsf_basic.specs.declared.faults.Part.TheVariants as part
use Rattle.tlsf_basic.specs.declared.faults.TextFault.TheVariants.{MissingPart}
use Rattle.tlsf_basic.specs.declared.headings.Semantics.{Semantics}
use Rattle.tlsf_basic.specs.declared.headings.PlacedTarget.{PlacedTarget}
use Rattle.tlsf_basic.specs.declared.headings.Items.{Items}
use Rattle.tlsf_basic.specs.declared.headings.Heading.{Heading}
use Rattle.tlsf_basic.specs.declared.symbols.Symbol.{Symbol}
use Rattle.tlsf_basic.specs.declared.symbols.Symbol.TheVariants as s
use Rattle.tlsf_basic.specs.declared.symbols.Lexeme.{Lexeme}
use Rattle.tlsf_basic.specs.Reads.{Read, Past, ◌>>=◌, front, unexpected, turns, passes}
use Rattle.tlsf_basic.specs.Marks.{is_strict, is_name, mark, is_colon, is_text, is_comma, is_open_brace, is_info, in_braces, part_word}
use Rattle.tlsf_basic.specs.Values.{no_items}

-- `:` and a string
unfoldable pub read_string : List Lexeme → Past
read_string w = mark is_colon w >>= mark is_text

abbrev pub kind_by : Symbol → Lexeme → List Lexeme → Read PlacedTarget
kind_by (s.Kind kind) t ts = Ok (record { target = kind; place = t.from }, ts)
kind_by _ t ts = unexpected (t ∷ ts)

-- `Mealy` or `Moore`
unfoldable pub read_kind : List Lexeme → Read PlacedTarget
read_kind [] = unexpected []
read_kind (t ∷ ts) = kind_by t.symbol t ts

abbrev pub strict_by : Symbol → Target → List Lexeme → Read Semantics
strict_by s.Comma kind w = mark is_strict (drop 1 w) >>= λ v. Ok (record { kind = kind; strict = true }, v)
strict_by _ kind w = Ok (record { kind = kind; strict = false }, w)

abbrev pub semantics_by : Symbol → List Lexeme → Read Semantics
semantics_by s.Strict w =
    mark is_comma (drop 1 w) >>= λ v. read_kind v >>= λ r. Ok (record { kind = r.0.target; strict = true }, r.1)
semantics_by _ w = read_kind w >>= λ r. strict_by (front r.1) r.0.target r.1

-- a kind, perhaps with `Strict` beside it
unfoldable pub read_semantics : List Lexeme → Read Semantics
read_semantics w = semantics_by (front w) w

-- names with `,` between them
unfoldable pub read_tags : List Lexeme → Past
read_tags w = mark is_name w >>= λ v. passes is_comma (λ u. mark is_name (drop 1 u)) (length v) v

unfoldable pub read_title : Items → List Lexeme → Read Items
read_title items w =
    (if items.title then unexpected w else read_string (drop 1 w) >>= λ v. Ok (record items { title = true }, v))

unfoldable pub read_description : Items → List Lexeme → Read Items
read_description items w =
    (if items.description then unexpected w
    else read_string (drop 1 w) >>= λ v. Ok (record items { description = true }, v))

unfoldable pub read_tag_item : Items → List Lexeme → Read Items
read_tag_item items w =
    (if items.tags then unexpected w
    else mark is_colon (drop 1 w) >>= λ v. read_tags v >>= λ u. Ok (record items { tags = true }, u))

unfoldable pub read_semantics_item : Items → List Lexeme → Read Items
read_semantics_item items w =
    (if is_some items.semantics then unexpected w
    else mark is_colon (drop 1 w) >>= λ v. read_semantics v >>= λ r. Ok (record items { semantics = Some r.0 }, r.1))

unfoldable pub read_target_item : Items → List Lexeme → Read Items
read_target_item items w =
    (if is_some items.target then unexpected w
    else mark is_colon (drop 1 w) >>= λ v. read_kind v >>= λ r. Ok (record items { target = Some r.0 }, r.1))

abbrev pub item_by : Symbol → Items → List Lexeme → Read Items
item_by s.Title items w = read_title items w
item_by s.Description items w = read_description items w
item_by s.Semantics items w = read_semantics_item items w
item_by s.Target items w = read_target_item items w
item_by s.Tags items w = read_tag_item items w
item_by _ items w = unexpected w

-- an item that hasn't stood before
unfoldable pub read_item : Items → List Lexeme → Read Items
read_item items w = item_by (front w) items w

unfoldable pub read_items : List Lexeme → Read Items
read_items w = turns in_braces read_item (length w) no_items w

abbrev pub heading_by : Option Semantics → Option PlacedTarget → List Lexeme → Read Heading
heading_by None target w = Err (MissingPart part.Semantics, w)
heading_by (Some semantics) None w = Err (MissingPart part.Target, w)
heading_by (Some semantics) (Some target) w = Ok (record { semantics = semantics; target = target }, drop 1 w)

-- the closing brace, where the items are whole
unfoldable pub close_heading : Items → List Lexeme → Read Heading
close_heading items w =
    (if in_braces (front w) then unexpected w else heading_by items.semantics items.target w)

unfoldable pub read_heading : List Lexeme → Read Heading
read_heading w =
    part_word is_info part.Info w >>= mark is_open_brace >>= read_items >>= λ r. close_heading r.0 r.1
