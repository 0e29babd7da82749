-- What the tokens of a text are to the grammar.
use Rattle.std.specs.Prelude.{ℕ, ◌<◌, ◌≤◌, List, [], ◌∷◌, codes, slice_range, if◌then◌else◌}
use Rattle.std.specs.Str.{bytes_eq}
use Rattle.word_core.specs.declared.names.Target.TheVariants.{Mealy, Moore}
use Rattle.tlsf_lex.specs.declared.tokens.Kin.{Kin}
use Rattle.tlsf_lex.specs.declared.tokens.Kin.TheVariants as kin
use Rattle.tlsf_lex.specs.declared.tokens.Token.{Token}
use Rattle.tlsf_basic.specs.declared.symbols.Unary.TheVariants as u
use Rattle.tlsf_basic.specs.declared.symbols.Lone.TheVariants as o
use Rattle.tlsf_basic.specs.declared.symbols.Section.TheVariants as section
use Rattle.tlsf_basic.specs.declared.symbols.Side.TheVariants.{Input, Output}
use Rattle.tlsf_basic.specs.declared.symbols.Symbol.{Symbol}
use Rattle.tlsf_basic.specs.declared.symbols.Symbol.TheVariants as s
use Rattle.tlsf_basic.specs.declared.symbols.Lexeme.{Lexeme}
use Rattle.tlsf_basic.specs.declared.words.Zone.{Zone}
use Rattle.tlsf_basic.specs.declared.words.Zone.TheVariants as zone

-- the reserved words, the marks, and the names of the first part
abbrev pub words : List (List ℕ × Symbol)
words =
    (codes "INFO", s.Info) ∷ (codes "MAIN", s.Main) ∷ (codes "TITLE", s.Title) ∷ (codes "DESCRIPTION", s.Description)
    ∷ (codes "SEMANTICS", s.Semantics) ∷ (codes "TARGET", s.Target) ∷ (codes "TAGS", s.Tags)
    ∷ (codes "INPUTS", s.Inputs) ∷ (codes "OUTPUTS", s.Outputs)
    ∷ (codes "INITIALLY", s.Section section.Initially) ∷ (codes "PRESET", s.Section section.Preset)
    ∷ (codes "REQUIRE", s.Section section.Require) ∷ (codes "REQUIREMENTS", s.Section section.Require)
    ∷ (codes "ASSERT", s.Section section.Assert) ∷ (codes "INVARIANTS", s.Section section.Assert)
    ∷ (codes "ASSUME", s.Section section.Assume) ∷ (codes "ASSUMPTIONS", s.Section section.Assume)
    ∷ (codes "GUARANTEE", s.Section section.Guarantee) ∷ (codes "GUARANTEES", s.Section section.Guarantee)
    ∷ (codes "Mealy", s.Kind Mealy) ∷ (codes "Moore", s.Kind Moore) ∷ (codes "Strict", s.Strict)
    ∷ (codes "true", s.True) ∷ (codes "false", s.False)
    ∷ (codes "!", s.Unary u.Not) ∷ (codes "X", s.Unary u.Next) ∷ (codes "F", s.Unary u.Finally) ∷ (codes "G", s.Unary u.Globally)
    ∷ (codes "&&", s.And) ∷ (codes "||", s.Or) ∷ (codes "->", s.Arrow)
    ∷ (codes "<->", s.Lone o.Equiv) ∷ (codes "U", s.Lone o.Until) ∷ (codes "R", s.Lone o.Release) ∷ (codes "W", s.Lone o.Weak)
    ∷ (codes "{", s.OpenBrace) ∷ (codes "}", s.CloseBrace) ∷ (codes "(", s.Open) ∷ (codes ")", s.Close)
    ∷ (codes ";", s.Semicolon) ∷ (codes ":", s.Colon) ∷ (codes ",", s.Comma) ∷ []

-- what stands beside the first equal word; a word that isn't there is a name
abbrev pub look_up : List (List ℕ × Symbol) → List ℕ → Symbol
look_up [] bytes = s.Name
look_up (p ∷ ps) bytes = (if bytes_eq p.0 bytes then p.1 else look_up ps bytes)

unfoldable pub word_symbol : List ℕ → Symbol
word_symbol bytes = look_up words bytes

abbrev pub symbol_of : Kin → List ℕ → Symbol
symbol_of kin.Text bytes = s.Text
symbol_of kin.Full bytes = s.Full
symbol_of kin.Word bytes = word_symbol bytes
symbol_of kin.Mark bytes = word_symbol bytes

-- the zone that a word begins
abbrev pub zone_after : Zone → Symbol → Zone
zone_after z s.Inputs = zone.Declared Input
zone_after z s.Outputs = zone.Declared Output
zone_after z (s.Section section) = zone.Entries
zone_after z _ = z

-- what a name in a zone is
abbrev pub name_in : Zone → Symbol → Symbol
name_in zone.Heading word = word
name_in (zone.Declared side) word = s.Declared side
name_in zone.Entries word = s.Unknown

abbrev pub in_zone : Zone → Symbol → Symbol
in_zone z s.Name = name_in z s.Name
in_zone z (s.Kind kind) = name_in z (s.Kind kind)
in_zone z s.Strict = name_in z s.Strict
in_zone z symbol = symbol

abbrev pub lexeme_of : List ℕ → Zone → Token → Lexeme
lexeme_of text z t =
    record { symbol = in_zone z (symbol_of t.kin (slice_range text t.from t.to)); «from» = t.from; to = t.to }

abbrev pub zone_behind : List ℕ → Zone → Token → Zone
zone_behind text z t = zone_after z (symbol_of t.kin (slice_range text t.from t.to))

-- the symbols of the tokens, where no name of a formula is known to be declared
unfoldable pub lexemes_of : List ℕ → Zone → List Token → List Lexeme
lexemes_of text z [] = []
lexemes_of text z (t ∷ ts) = lexeme_of text (zone_behind text z t) t ∷ lexemes_of text (zone_behind text z t) ts

-- the lexeme has a byte, and is a part of a text of this length
abbrev pub SpanWithin : ℕ → Lexeme → Type 0
SpanWithin len l = (l.from < l.to) × (l.to ≤ len)
