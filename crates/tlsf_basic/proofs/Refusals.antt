-- From what the steps of reading tell to the specification or the fault of a text.
use Rattle.std.proofs.Common.{◌≡◌, ℕ, ◌≤◌, ◌+◌, Bool, List, length, slice_get, Result, Ok, Err, Some, sym, ap, ◌∙◌, subst, arith, length-append, map, encode_utf8_all}
use Rattle.std.specs.Prelude.{IfErr}
use Rattle.tlsf_lex.specs.Tokens.{tokens_of, Tells}
use Rattle.tlsf_lex.specs.declared.tokens.LexError.{LexError}
use Rattle.tlsf_lex.specs.declared.tokens.LexError.TheVariants as lexical
use Rattle.tlsf_basic.specs.declared.faults.TextFault.TheVariants.{DuplicateSignal, UnknownSignal, MixedTarget, TooManySignals}
use Rattle.tlsf_basic.specs.declared.faults.TextError.{TextError}
use Rattle.tlsf_basic.specs.declared.faults.TextError.TheVariants.{Fault, Memory}
use Rattle.tlsf_basic.specs.declared.headings.Heading.{Heading}
use Rattle.tlsf_basic.specs.declared.mains.Sections.{Sections}
use Rattle.tlsf_basic.specs.declared.symbols.Lexeme.{Lexeme}
use Rattle.tlsf_basic.specs.Signals.{inputs_of, outputs_of, numbered, IsFirst, IsNever, is_repeated, is_undeclared, name_of}
use Rattle.tlsf_basic.specs.Mains.{read_text}
use Rattle.tlsf_basic.specs.TextGrammar.{IsText}
use Rattle.tlsf_basic.specs.Specification.{text_error, GivesPlaced, IsLexed, Agrees, AreNamed, all_declared, IsNameFault, repeated, undeclared, IsFault, no_tokens, no_text, of_names, of_target, of_number, IsRefused, IsNameRefused, IsTargetRefused, IsNumberRefused}
use Rattle.tlsf_basic.specs.declared.words.Zone.TheVariants as zone
use Rattle.tlsf_basic.proofs.Ascii.{inputs_plain, outputs_plain}
use Rattle.tlsf_basic.proofs.Exact.{found_text, found_fault}

pub err_gives : {A : Type 0} (Q : TextError → Type 0) (r : Result A TextError) (e y : TextError) → r ≡ Err y → y ≡ e → Q e → IfErr r Q
err_gives Q r e y is same q = subst (λ x. IfErr x Q) (sym (is ∙ ap Err same)) q

pub name_repeated : (text : List ℕ) (w : List Lexeme) (place : ℕ) → (l : Lexeme) × IsFirst (is_repeated text) w l × (place ≡ l.from) → IsNameFault text w DuplicateSignal place
name_repeated text w place (l, first, e) = subst (IsNameFault text w DuplicateSignal) (sym e) (repeated l first)

pub name_undeclared : (text : List ℕ) (w : List Lexeme) (place : ℕ) → IsNever (is_repeated text) w → (l : Lexeme) × IsFirst is_undeclared w l × (place ≡ l.from) → IsNameFault text w UnknownSignal place
name_undeclared text w place never (l, first, e) = subst (IsNameFault text w UnknownSignal) (sym e) (undeclared l never first)

pub lex_refused : (text : List ℕ) (as_written : Bool) (e : LexError) → Tells e (tokens_of text) → IsRefused text as_written (text_error e)
lex_refused text as_written (lexical.Fault what place) tells = no_tokens what place tells
lex_refused text as_written lexical.Memory tells = tt

module _ (text : List ℕ) (as_written : Bool) (v w : List Lexeme) (lexed : IsLexed text v) (same : w ≡ numbered text v) where
  pub grammar_refused : (e : TextError) → GivesPlaced {A = Heading × Sections} (length text) (Err e) (read_text 256 w) → IsRefused text as_written e
  grammar_refused (Fault what place) (rest, is, e) =
      subst (IsFault text as_written what) (sym e) (no_text v what rest lexed (found_fault (numbered text v) what rest (ap (read_text 256) (sym same) ∙ is)))
  grammar_refused Memory h = tt

  module _ (heading : Heading) (all : Sections) (read : read_text 256 w ≡ Ok (heading, all)) where
    pub is_read : IsText 256 (numbered text v) (heading, all)
    is_read = found_text (numbered text v) (heading, all) (ap (read_text 256) (sym same) ∙ read)

    pub names_refused : (e : TextError) → IsNameRefused text w e → IsRefused text as_written e
    names_refused (Fault what place) h = of_names v heading all what place lexed is_read (subst (λ z. IsNameFault text z what place) same h)
    names_refused Memory h = tt

    module _ (named : AreNamed text w) where
      pub all_named : AreNamed text (numbered text v)
      all_named = subst (AreNamed text) same named

      pub target_refused : (e : TextError) → IsTargetRefused as_written heading e → IsRefused text as_written e
      target_refused (Fault what place) (ef, ep, strict, differs) =
          subst (λ z. IsFault text as_written z place) (sym ef) (subst (IsFault text as_written MixedTarget) (sym ep) (of_target v heading all lexed is_read all_named strict differs))
      target_refused Memory h = tt

      pub number_refused : (names : List Lexeme) → names ≡ all_declared v → Agrees as_written heading → (e : TextError) → IsNumberRefused names e → IsRefused text as_written e
      number_refused names en agrees (Fault what place) (ef, l, is, ep) =
          subst (λ z. IsFault text as_written z place) (sym ef) (subst (IsFault text as_written TooManySignals) (sym ep)
          (of_number v heading all l lexed is_read all_named agrees (subst (λ z. slice_get z 40 ≡ Some l) en is)))
      number_refused names en agrees Memory h = tt

pub few_declared : (v ins outs : List Lexeme) (m n : ℕ) → ins ≡ inputs_of v → outs ≡ outputs_of v → m ≡ length ins → n ≡ length outs → m + n ≤ 40 → length (all_declared v) ≤ 40
few_declared v ins outs m n ei eo em en few =
    omega (arith, few, em, en, ap length ei, ap length eo, length-append (inputs_of v) (outputs_of v))

pub inputs_named : (text : List ℕ) (v : List Lexeme) → IsLexed text v → map encode_utf8_all (map (name_of text) (inputs_of v)) ≡ map (name_of text) (inputs_of v)
inputs_named text v (ts, et, ev) = subst (λ z. map encode_utf8_all (map (name_of text) (inputs_of z)) ≡ map (name_of text) (inputs_of z)) (sym ev) (inputs_plain text zone.Heading ts et)

pub outputs_named : (text : List ℕ) (v : List Lexeme) → IsLexed text v → map encode_utf8_all (map (name_of text) (outputs_of v)) ≡ map (name_of text) (outputs_of v)
outputs_named text v (ts, et, ev) = subst (λ z. map encode_utf8_all (map (name_of text) (outputs_of z)) ≡ map (name_of text) (outputs_of z)) (sym ev) (outputs_plain text zone.Heading ts et)
