-- The grammar of whole texts: which lists of tokens are texts of each rule, and their values. The number bounds the nesting in the entries.
use Rattle.std.specs.Prelude.{◌≡◌, ℕ, true, false, List, [], ◌∷◌, ◌++◌, Some, None}
use Rattle.word_core.specs.declared.names.Target.{Target}
use Rattle.tlsf_basic.specs.declared.headings.Semantics.{Semantics}
use Rattle.tlsf_basic.specs.declared.headings.PlacedTarget.{PlacedTarget}
use Rattle.tlsf_basic.specs.declared.headings.Items.{Items}
use Rattle.tlsf_basic.specs.declared.headings.Heading.{Heading}
use Rattle.tlsf_basic.specs.declared.mains.Sections.{Sections}
use Rattle.tlsf_basic.specs.declared.mains.Parts.{Parts}
use Rattle.tlsf_basic.specs.declared.symbols.Section.{Section}
use Rattle.tlsf_basic.specs.declared.symbols.Symbol.TheVariants as s
use Rattle.tlsf_basic.specs.declared.symbols.Lexeme.{Lexeme}
use Rattle.tlsf_basic.specs.Marks.{is_title, is_description, is_semantics, is_target, is_tags, is_colon, is_text, is_comma, is_info, is_main, is_open_brace, is_close_brace, is_declared, is_semicolon, is_inputs, is_outputs, is_strict, is_name}
use Rattle.tlsf_basic.specs.Values.{no_items, added, no_parts}
use Rattle.tlsf_basic.specs.Rows.{IsRow}
use Rattle.tlsf_basic.specs.Grammar.{IsFormula}

-- a kind, perhaps with `Strict` beside it
pub data IsSemantics : List Lexeme → Semantics → Type 0 where
  kind_alone : (k : Lexeme) (kind : Target) → k.symbol ≡ s.Kind kind → IsSemantics (k ∷ []) (record { kind = kind; strict = false })
  kind_first : (k : Lexeme) (kind : Target) (c t : Lexeme) → k.symbol ≡ s.Kind kind → IsRow (is_comma ∷ is_strict ∷ []) (c ∷ t ∷ []) → IsSemantics (k ∷ c ∷ t ∷ []) (record { kind = kind; strict = true })
  strict_first : (t c k : Lexeme) (kind : Target) → IsRow (is_strict ∷ is_comma ∷ []) (t ∷ c ∷ []) → k.symbol ≡ s.Kind kind → IsSemantics (t ∷ c ∷ k ∷ []) (record { kind = kind; strict = true })

-- any number of names, each behind `,`
pub data IsMoreTags : List Lexeme → Type 0 where
  no_tag : IsMoreTags []
  tag_more : (c t : Lexeme) (w : List Lexeme) → IsRow (is_comma ∷ is_name ∷ []) (c ∷ t ∷ []) → IsMoreTags w → IsMoreTags (c ∷ t ∷ w)

-- an item, and what has stood before it and behind it
pub data IsItem : Items → List Lexeme → Items → Type 0 where
  is_title_item : (i : Items) (w : List Lexeme) → i.title ≡ false → IsRow (is_title ∷ is_colon ∷ is_text ∷ []) w → IsItem i w (record i { title = true })
  is_description_item : (i : Items) (w : List Lexeme) → i.description ≡ false → IsRow (is_description ∷ is_colon ∷ is_text ∷ []) w → IsItem i w (record i { description = true })
  is_semantics_item : (i : Items) (a c : Lexeme) (w : List Lexeme) (semantics : Semantics) → i.semantics ≡ None → IsRow (is_semantics ∷ is_colon ∷ []) (a ∷ c ∷ []) → IsSemantics w semantics → IsItem i (a ∷ c ∷ w) (record i { semantics = Some semantics })
  is_target_item : (i : Items) (a c k : Lexeme) (kind : Target) → i.target ≡ None → IsRow (is_target ∷ is_colon ∷ []) (a ∷ c ∷ []) → k.symbol ≡ s.Kind kind → IsItem i (a ∷ c ∷ k ∷ []) (record i { target = Some (record { target = kind; place = k.from }) })
  is_tags_item : (i : Items) (a c t : Lexeme) (w : List Lexeme) → i.tags ≡ false → IsRow (is_tags ∷ is_colon ∷ is_name ∷ []) (a ∷ c ∷ t ∷ []) → IsMoreTags w → IsItem i (a ∷ c ∷ t ∷ w) (record i { tags = true })

pub data IsItems : Items → List Lexeme → Items → Type 0 where
  no_item : (i : Items) → IsItems i [] i
  item_more : (i j k : Items) (w v : List Lexeme) → IsItem i w j → IsItems j v k → IsItems i (w ++ v) k

-- the first part, whose closing brace stands behind the semantics and the target
pub data IsHeading : List Lexeme → Heading → Type 0 where
  is_heading : (a b c : Lexeme) (w : List Lexeme) (i : Items) (semantics : Semantics) (target : PlacedTarget) → IsRow (is_info ∷ is_open_brace ∷ []) (a ∷ b ∷ []) → IsItems no_items w i
      → i.semantics ≡ Some semantics → i.target ≡ Some target → is_close_brace c.symbol ≡ true → IsHeading (a ∷ b ∷ w ++ c ∷ []) (record { semantics = semantics; target = target })

-- any number of names, each with `;`
pub data IsNames : List Lexeme → Type 0 where
  no_name : IsNames []
  name_more : (t c : Lexeme) (w : List Lexeme) → IsRow (is_declared ∷ is_semicolon ∷ []) (t ∷ c ∷ []) → IsNames w → IsNames (t ∷ c ∷ w)

-- entries of a section, behind those that stood before them
pub data IsEntries (n : ℕ) (kind : Section) : Sections → List Lexeme → Sections → Type 0 where
  no_entry : (all : Sections) → IsEntries n kind all [] all
  entry_more : (all : Sections) (f : _) (w : List Lexeme) (c : Lexeme) (v : List Lexeme) (after : Sections) → IsFormula n w f → is_semicolon c.symbol ≡ true → IsEntries n kind (added kind f all) v after → IsEntries n kind all (w ++ c ∷ v) after

-- signals of a side that hasn't stood before, or a section
pub data IsPart (n : ℕ) : Parts → List Lexeme → Parts → Type 0 where
  is_inputs_part : (i : Parts) (a b c : Lexeme) (w : List Lexeme) → i.inputs ≡ false → IsRow (is_inputs ∷ is_open_brace ∷ []) (a ∷ b ∷ []) → IsNames w → is_close_brace c.symbol ≡ true → IsPart n i (a ∷ b ∷ w ++ c ∷ []) (record i { inputs = true })
  is_outputs_part : (i : Parts) (a b c : Lexeme) (w : List Lexeme) → i.outputs ≡ false → IsRow (is_outputs ∷ is_open_brace ∷ []) (a ∷ b ∷ []) → IsNames w → is_close_brace c.symbol ≡ true → IsPart n i (a ∷ b ∷ w ++ c ∷ []) (record i { outputs = true })
  is_section_part : (i : Parts) (kind : Section) (a b c : Lexeme) (w : List Lexeme) (after : Sections) → a.symbol ≡ s.Section kind → is_open_brace b.symbol ≡ true → IsEntries n kind i.sections w after → is_close_brace c.symbol ≡ true → IsPart n i (a ∷ b ∷ w ++ c ∷ []) (record i { sections = after })

pub data IsParts (n : ℕ) : Parts → List Lexeme → Parts → Type 0 where
  no_part : (i : Parts) → IsParts n i [] i
  part_more : (i j k : Parts) (w v : List Lexeme) → IsPart n i w j → IsParts n j v k → IsParts n i (w ++ v) k

-- the second part, whose closing brace stands behind the inputs and the outputs
pub data IsMain (n : ℕ) : List Lexeme → Sections → Type 0 where
  is_whole_main : (a b c : Lexeme) (w : List Lexeme) (i : Parts) → IsRow (is_main ∷ is_open_brace ∷ []) (a ∷ b ∷ []) → IsParts n no_parts w i → i.inputs ≡ true → i.outputs ≡ true → is_close_brace c.symbol ≡ true → IsMain n (a ∷ b ∷ w ++ c ∷ []) i.sections

pub data IsText (n : ℕ) : List Lexeme → Heading × Sections → Type 0 where
  is_whole_text : (w v : List Lexeme) (heading : Heading) (all : Sections) → IsHeading w heading → IsMain n v all → IsText n (w ++ v) (heading, all)
