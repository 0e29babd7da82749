-- The fault of a list of tokens that is no text of the grammar.
use Rattle.std.specs.Prelude.{◌≡◌, ℕ, Bool, true, false, List, [], ◌∷◌, ◌++◌, Some, None}
use Rattle.ltl_form.specs.declared.formulas.Ltl.{Ltl}
use Rattle.tlsf_basic.specs.declared.faults.Part.{Part}
use Rattle.tlsf_basic.specs.declared.faults.Part.TheVariants as part
use Rattle.tlsf_basic.specs.declared.faults.TextFault.{TextFault}
use Rattle.tlsf_basic.specs.declared.faults.TextFault.TheVariants.{Expected, NeedsParens, TooDeep, FullFormat, MissingPart}
use Rattle.tlsf_basic.specs.declared.headings.Semantics.{Semantics}
use Rattle.tlsf_basic.specs.declared.headings.Items.{Items}
use Rattle.tlsf_basic.specs.declared.headings.Heading.{Heading}
use Rattle.tlsf_basic.specs.declared.mains.Sections.{Sections}
use Rattle.tlsf_basic.specs.declared.mains.Parts.{Parts}
use Rattle.tlsf_basic.specs.declared.symbols.Symbol.{Symbol}
use Rattle.tlsf_basic.specs.declared.symbols.Symbol.TheVariants as s
use Rattle.tlsf_basic.specs.declared.symbols.Lexeme.{Lexeme}
use Rattle.tlsf_basic.specs.Reads.{front}
use Rattle.tlsf_basic.specs.Marks.{is_info, is_main, is_open_brace, is_close_brace}
use Rattle.tlsf_basic.specs.Values.{no_items, no_parts}
use Rattle.tlsf_basic.specs.Rows.{IsRow}
use Rattle.tlsf_basic.specs.Grammar.{IsUnary}
use Rattle.tlsf_basic.specs.TextGrammar.{IsItems, IsHeading, IsParts, IsText}
use Rattle.tlsf_basic.specs.TextBegins.{BeginsText}

-- the first part isn't there, or is to be closed without its semantics or its target: the tokens before, and those from there on
pub data LacksInHeading : Part → List Lexeme → List Lexeme → Type 0 where
  no_info : (v : List Lexeme) → LacksInHeading part.Info [] v
  no_semantics : (a b : Lexeme) (w : List Lexeme) (i : Items) (c : Lexeme) (v : List Lexeme) → IsRow (is_info ∷ is_open_brace ∷ []) (a ∷ b ∷ []) → IsItems no_items w i → is_close_brace c.symbol ≡ true → i.semantics ≡ None → LacksInHeading part.Semantics (a ∷ b ∷ w) (c ∷ v)
  no_target : (a b : Lexeme) (w : List Lexeme) (i : Items) (c : Lexeme) (v : List Lexeme) (semantics : Semantics) → IsRow (is_info ∷ is_open_brace ∷ []) (a ∷ b ∷ []) → IsItems no_items w i → is_close_brace c.symbol ≡ true → i.semantics ≡ Some semantics → i.target ≡ None → LacksInHeading part.Target (a ∷ b ∷ w) (c ∷ v)

-- the same of the second part, with its inputs and its outputs
pub data LacksInMain (n : ℕ) : Part → List Lexeme → List Lexeme → Type 0 where
  no_main : (v : List Lexeme) → LacksInMain n part.Main [] v
  no_inputs : (a b : Lexeme) (w : List Lexeme) (i : Parts) (c : Lexeme) (v : List Lexeme) → IsRow (is_main ∷ is_open_brace ∷ []) (a ∷ b ∷ []) → IsParts n no_parts w i → is_close_brace c.symbol ≡ true → i.inputs ≡ false → LacksInMain n part.Inputs (a ∷ b ∷ w) (c ∷ v)
  no_outputs : (a b : Lexeme) (w : List Lexeme) (i : Parts) (c : Lexeme) (v : List Lexeme) → IsRow (is_main ∷ is_open_brace ∷ []) (a ∷ b ∷ []) → IsParts n no_parts w i → is_close_brace c.symbol ≡ true → i.inputs ≡ true → i.outputs ≡ false → LacksInMain n part.Outputs (a ∷ b ∷ w) (c ∷ v)

pub data Lacks (n : ℕ) : Part → List Lexeme → List Lexeme → Type 0 where
  in_first : (part : Part) (p v : List Lexeme) → LacksInHeading part p v → Lacks n part p v
  in_later : (part : Part) (u : List Lexeme) (heading : Heading) (p v : List Lexeme) → IsHeading u heading → LacksInMain n part p v → Lacks n part (u ++ p) v

-- they begin a text, whatever the nesting
abbrev pub Begins : List Lexeme → Type 0
Begins w = (n : ℕ) × BeginsText n w

-- the first tokens have this property, and no more of them have it
abbrev pub IsLongest : (List Lexeme → Type 0) → List Lexeme → List Lexeme → Type 0
IsLongest B p v = B p × ((q r : List Lexeme) → v ≡ q ++ r → B (p ++ q) → q ≡ [])

abbrev pub IsNoText : List Lexeme → Type 0
IsNoText w = (n : ℕ) (x : Heading × Sections) → IsText n w x → ⊥

-- a part is missing, whatever the nesting
abbrev pub LacksPart : List Lexeme → List Lexeme → Part → Type 0
LacksPart p v part = (n : ℕ) × Lacks n part p v

-- the last of these tokens are a whole operand of an entry, in whose place a `(` may stand
abbrev pub EndsOperand : List Lexeme → Type 0
EndsOperand p = (n : ℕ) × (q : List Lexeme) × (u : List Lexeme) × (f : Ltl) × (p ≡ q ++ u) × IsUnary n u f × ((o : Lexeme) → o.symbol ≡ s.Open → Begins (q ++ o ∷ []))

abbrev pub is_full : Symbol → Bool
is_full s.Full = true
is_full _ = false

-- an operator between two operands
abbrev pub is_operator : Symbol → Bool
is_operator s.And = true
is_operator s.Or = true
is_operator s.Arrow = true
is_operator (s.Lone op) = true
is_operator _ = false

-- the fault at a token that can't stand behind these, or at the end
pub data IsKind (p v : List Lexeme) : TextFault → Type 0 where
  of_full : is_full (front v) ≡ true → IsKind p v FullFormat
  of_missing : (part : Part) → is_full (front v) ≡ false → LacksPart p v part → IsKind p v (MissingPart part)
  of_operator : is_full (front v) ≡ false → ((part : Part) → LacksPart p v part → ⊥) → EndsOperand p → is_operator (front v) ≡ true → IsKind p v NeedsParens
  of_other : is_full (front v) ≡ false → ((part : Part) → LacksPart p v part → ⊥) → (EndsOperand p → is_operator (front v) ≡ true → ⊥) → IsKind p v Expected

-- the tokens, their fault, and the tokens from where it stands: at the first token, or the end, that can't stand there,
-- or at a token before that, the first one that nests deeper than 256
pub data IsGrammarFault : List Lexeme → TextFault → List Lexeme → Type 0 where
  bad_token : (p v : List Lexeme) (f : TextFault) → BeginsText 256 p → IsLongest Begins p v → IsNoText (p ++ v) → IsKind p v f → IsGrammarFault (p ++ v) f v
  deep_token : (p : List Lexeme) (t : Lexeme) (v : List Lexeme) → IsLongest (BeginsText 256) p (t ∷ v) → Begins (p ++ t ∷ []) → IsGrammarFault (p ++ t ∷ v) TooDeep (t ∷ v)
