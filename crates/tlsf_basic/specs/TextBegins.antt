-- Which lists of tokens begin each rule of whole texts.
use Rattle.std.specs.Prelude.{◌≡◌, ℕ, true, false, List, [], ◌∷◌, ◌++◌, None}
use Rattle.ltl_form.specs.declared.formulas.Ltl.{Ltl}
use Rattle.tlsf_basic.specs.declared.headings.Items.{Items}
use Rattle.tlsf_basic.specs.declared.headings.Heading.{Heading}
use Rattle.tlsf_basic.specs.declared.mains.Sections.{Sections}
use Rattle.tlsf_basic.specs.declared.mains.Parts.{Parts}
use Rattle.tlsf_basic.specs.declared.symbols.Section.{Section}
use Rattle.tlsf_basic.specs.declared.symbols.Symbol.TheVariants as s
use Rattle.tlsf_basic.specs.declared.symbols.Lexeme.{Lexeme}
use Rattle.tlsf_basic.specs.Marks.{is_title, is_description, is_semantics, is_target, is_tags, is_kind, is_colon, is_text, is_comma, is_info, is_main, is_open_brace, is_close_brace, is_declared, is_semicolon, is_inputs, is_outputs, is_section, is_strict, is_name}
use Rattle.tlsf_basic.specs.Values.{no_items, no_parts}
use Rattle.tlsf_basic.specs.Rows.{IsRow, BeginsRow}
use Rattle.tlsf_basic.specs.Grammar.{IsFormula}
use Rattle.tlsf_basic.specs.Begins.{BeginsMark, BeginsFormula}
use Rattle.tlsf_basic.specs.TextGrammar.{IsMoreTags, IsItems, IsHeading, IsNames, IsEntries, IsParts, IsMain}

-- a kind alone begins the row of a kind and `Strict` too
pub data BeginsSemantics : List Lexeme → Type 0 where
  in_kind_first : (w : List Lexeme) → BeginsRow (is_kind ∷ is_comma ∷ is_strict ∷ []) w → BeginsSemantics w
  in_strict_first : (w : List Lexeme) → BeginsRow (is_strict ∷ is_comma ∷ is_kind ∷ []) w → BeginsSemantics w

pub data BeginsItem : Items → List Lexeme → Type 0 where
  no_item_yet : (i : Items) → BeginsItem i []
  in_title : (i : Items) (w : List Lexeme) → i.title ≡ false → BeginsRow (is_title ∷ is_colon ∷ is_text ∷ []) w → BeginsItem i w
  in_description : (i : Items) (w : List Lexeme) → i.description ≡ false → BeginsRow (is_description ∷ is_colon ∷ is_text ∷ []) w → BeginsItem i w
  at_semantics : (i : Items) (w : List Lexeme) → i.semantics ≡ None → BeginsRow (is_semantics ∷ is_colon ∷ []) w → BeginsItem i w
  in_semantics : (i : Items) (a c : Lexeme) (w : List Lexeme) → i.semantics ≡ None → IsRow (is_semantics ∷ is_colon ∷ []) (a ∷ c ∷ []) → BeginsSemantics w → BeginsItem i (a ∷ c ∷ w)
  in_target : (i : Items) (w : List Lexeme) → i.target ≡ None → BeginsRow (is_target ∷ is_colon ∷ is_kind ∷ []) w → BeginsItem i w
  at_tags : (i : Items) (w : List Lexeme) → i.tags ≡ false → BeginsRow (is_tags ∷ is_colon ∷ is_name ∷ []) w → BeginsItem i w
  in_tags : (i : Items) (a c t : Lexeme) (w v : List Lexeme) → i.tags ≡ false → IsRow (is_tags ∷ is_colon ∷ is_name ∷ []) (a ∷ c ∷ t ∷ []) → IsMoreTags w → BeginsRow (is_comma ∷ is_name ∷ []) v → BeginsItem i (a ∷ c ∷ t ∷ w ++ v)

pub data BeginsItems : Items → List Lexeme → Type 0 where
  in_items : (i j : Items) (w v : List Lexeme) → IsItems i w j → BeginsItem j v → BeginsItems i (w ++ v)

-- the closing brace stands only where the first part is whole
pub data BeginsHeading : List Lexeme → Type 0 where
  at_info : (w : List Lexeme) → BeginsRow (is_info ∷ is_open_brace ∷ []) w → BeginsHeading w
  in_info : (a b : Lexeme) (w : List Lexeme) → IsRow (is_info ∷ is_open_brace ∷ []) (a ∷ b ∷ []) → BeginsItems no_items w → BeginsHeading (a ∷ b ∷ w)
  whole_heading : (w : List Lexeme) (heading : Heading) → IsHeading w heading → BeginsHeading w

pub data BeginsNames : List Lexeme → Type 0 where
  in_names : (w v : List Lexeme) → IsNames w → BeginsRow (is_declared ∷ is_semicolon ∷ []) v → BeginsNames (w ++ v)

pub data BeginsEntry (n : ℕ) : List Lexeme → Type 0 where
  in_formula : (w : List Lexeme) → BeginsFormula n w → BeginsEntry n w
  at_semicolon : (f : Ltl) (w r : List Lexeme) → IsFormula n w f → BeginsMark is_semicolon r → BeginsEntry n (w ++ r)

pub data BeginsPart (n : ℕ) : Parts → List Lexeme → Type 0 where
  no_part_yet : (i : Parts) → BeginsPart n i []
  at_inputs : (i : Parts) (w : List Lexeme) → i.inputs ≡ false → BeginsRow (is_inputs ∷ is_open_brace ∷ []) w → BeginsPart n i w
  in_inputs : (i : Parts) (a b : Lexeme) (w : List Lexeme) → i.inputs ≡ false → IsRow (is_inputs ∷ is_open_brace ∷ []) (a ∷ b ∷ []) → BeginsNames w → BeginsPart n i (a ∷ b ∷ w)
  end_of_inputs : (i : Parts) (a b : Lexeme) (w r : List Lexeme) → i.inputs ≡ false → IsRow (is_inputs ∷ is_open_brace ∷ []) (a ∷ b ∷ []) → IsNames w → BeginsMark is_close_brace r → BeginsPart n i (a ∷ b ∷ w ++ r)
  at_outputs : (i : Parts) (w : List Lexeme) → i.outputs ≡ false → BeginsRow (is_outputs ∷ is_open_brace ∷ []) w → BeginsPart n i w
  in_outputs : (i : Parts) (a b : Lexeme) (w : List Lexeme) → i.outputs ≡ false → IsRow (is_outputs ∷ is_open_brace ∷ []) (a ∷ b ∷ []) → BeginsNames w → BeginsPart n i (a ∷ b ∷ w)
  end_of_outputs : (i : Parts) (a b : Lexeme) (w r : List Lexeme) → i.outputs ≡ false → IsRow (is_outputs ∷ is_open_brace ∷ []) (a ∷ b ∷ []) → IsNames w → BeginsMark is_close_brace r → BeginsPart n i (a ∷ b ∷ w ++ r)
  at_section : (i : Parts) (w : List Lexeme) → BeginsRow (is_section ∷ is_open_brace ∷ []) w → BeginsPart n i w
  in_section : (i : Parts) (kind : Section) (a b : Lexeme) (w v : List Lexeme) (after : Sections) → a.symbol ≡ s.Section kind → is_open_brace b.symbol ≡ true → IsEntries n kind i.sections w after → BeginsEntry n v → BeginsPart n i (a ∷ b ∷ w ++ v)
  end_of_section : (i : Parts) (kind : Section) (a b : Lexeme) (w r : List Lexeme) (after : Sections) → a.symbol ≡ s.Section kind → is_open_brace b.symbol ≡ true → IsEntries n kind i.sections w after → BeginsMark is_close_brace r → BeginsPart n i (a ∷ b ∷ w ++ r)

pub data BeginsParts (n : ℕ) : Parts → List Lexeme → Type 0 where
  in_parts : (i j : Parts) (w v : List Lexeme) → IsParts n i w j → BeginsPart n j v → BeginsParts n i (w ++ v)

-- the closing brace stands only where the second part is whole
pub data BeginsMain (n : ℕ) : List Lexeme → Type 0 where
  at_main : (w : List Lexeme) → BeginsRow (is_main ∷ is_open_brace ∷ []) w → BeginsMain n w
  in_main : (a b : Lexeme) (w : List Lexeme) → IsRow (is_main ∷ is_open_brace ∷ []) (a ∷ b ∷ []) → BeginsParts n no_parts w → BeginsMain n (a ∷ b ∷ w)
  whole_main : (w : List Lexeme) (all : Sections) → IsMain n w all → BeginsMain n w

pub data BeginsText (n : ℕ) : List Lexeme → Type 0 where
  in_heading : (w : List Lexeme) → BeginsHeading w → BeginsText n w
  behind_heading : (w v : List Lexeme) (heading : Heading) → IsHeading w heading → BeginsMain n v → BeginsText n (w ++ v)
