-- Single tokens.
use Rattle.std.specs.Prelude.{Bool, true, false, not, List, [], ◌∷◌, Ok, Err, drop, if◌then◌else◌}
use Rattle.tlsf_basic.specs.declared.faults.Part.{Part}
use Rattle.tlsf_basic.specs.declared.symbols.Symbol.{Symbol}
use Rattle.tlsf_basic.specs.declared.symbols.Symbol.TheVariants as s
use Rattle.tlsf_basic.specs.declared.symbols.Lexeme.{Lexeme}
use Rattle.tlsf_basic.specs.Reads.{Past, front, unexpected, misplaced, missing}

abbrev pub is_open_brace : Symbol → Bool
is_open_brace s.OpenBrace = true
is_open_brace _ = false

abbrev pub is_close_brace : Symbol → Bool
is_close_brace s.CloseBrace = true
is_close_brace _ = false

abbrev pub is_semicolon : Symbol → Bool
is_semicolon s.Semicolon = true
is_semicolon _ = false

abbrev pub is_colon : Symbol → Bool
is_colon s.Colon = true
is_colon _ = false

abbrev pub is_comma : Symbol → Bool
is_comma s.Comma = true
is_comma _ = false

abbrev pub is_close : Symbol → Bool
is_close s.Close = true
is_close _ = false

abbrev pub is_text : Symbol → Bool
is_text s.Text = true
is_text _ = false

abbrev pub is_and : Symbol → Bool
is_and s.And = true
is_and _ = false

abbrev pub is_or : Symbol → Bool
is_or s.Or = true
is_or _ = false

abbrev pub is_declared : Symbol → Bool
is_declared (s.Declared side) = true
is_declared _ = false

abbrev pub is_info : Symbol → Bool
is_info s.Info = true
is_info _ = false

abbrev pub is_main : Symbol → Bool
is_main s.Main = true
is_main _ = false

-- a token of this kind, and no other
unfoldable pub mark : (Symbol → Bool) → List Lexeme → Past
mark is w = (if is (front w) then Ok (drop 1 w) else unexpected w)

-- the same behind a whole operand
unfoldable pub closing : (Symbol → Bool) → List Lexeme → Past
closing is w = (if is (front w) then Ok (drop 1 w) else Err (misplaced w, w))

-- the word that begins a part
unfoldable pub part_word : (Symbol → Bool) → Part → List Lexeme → Past
part_word is part w = (if is (front w) then Ok (drop 1 w) else Err (missing part w, w))

-- nothing more
unfoldable pub end : List Lexeme → Past
end [] = Ok []
end (t ∷ w) = unexpected (t ∷ w)

-- a list in braces goes on up to the closing one
abbrev pub in_braces : Symbol → Bool
in_braces symbol = not (is_close_brace symbol)

abbrev pub is_title : Symbol → Bool
is_title s.Title = true
is_title _ = false

abbrev pub is_description : Symbol → Bool
is_description s.Description = true
is_description _ = false

abbrev pub is_semantics : Symbol → Bool
is_semantics s.Semantics = true
is_semantics _ = false

abbrev pub is_target : Symbol → Bool
is_target s.Target = true
is_target _ = false

abbrev pub is_tags : Symbol → Bool
is_tags s.Tags = true
is_tags _ = false

abbrev pub is_kind : Symbol → Bool
is_kind (s.Kind kind) = true
is_kind _ = false

abbrev pub is_inputs : Symbol → Bool
is_inputs s.Inputs = true
is_inputs _ = false

abbrev pub is_outputs : Symbol → Bool
is_outputs s.Outputs = true
is_outputs _ = false

abbrev pub is_section : Symbol → Bool
is_section (s.Section section) = true
is_section _ = false

abbrev pub is_strict : Symbol → Bool
is_strict s.Strict = true
is_strict _ = false

abbrev pub is_name : Symbol → Bool
is_name s.Name = true
is_name (s.Kind kind) = true
is_name s.Strict = true
is_name _ = false
