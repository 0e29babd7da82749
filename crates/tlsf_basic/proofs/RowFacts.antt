-- Rows of single tokens: what reading them gives.
use Rattle.std.proofs.Common.{◌≡◌, Bool, true, false, List, [], ◌∷◌, ◌++◌, Ok, Err, sym, refl, subst}
use Rattle.word_core.specs.declared.names.Target.TheVariants.{Mealy}
use Rattle.tlsf_basic.specs.declared.symbols.Side.TheVariants.{Input}
use Rattle.tlsf_basic.specs.declared.symbols.Section.TheVariants as section
use Rattle.tlsf_basic.specs.declared.faults.TextFault.{TextFault}
use Rattle.tlsf_basic.specs.declared.symbols.Symbol.{Symbol}
use Rattle.tlsf_basic.specs.declared.symbols.Symbol.TheVariants as s
use Rattle.tlsf_basic.specs.declared.symbols.Lexeme.{Lexeme}
use Rattle.tlsf_basic.specs.Reads.{◌>>=◌, front, expected_by, expected}
use Rattle.tlsf_basic.specs.Marks.{mark, is_title, is_description, is_semantics, is_target, is_tags, is_colon, is_text, is_comma, is_kind, is_info, is_main, is_open_brace, is_close_brace, is_declared, is_semicolon, is_inputs, is_outputs, is_section, is_strict, is_name}
use Rattle.tlsf_basic.specs.Rows.{IsRow, BeginsRow}
use Rattle.tlsf_basic.proofs.Good.{Stops, Passed, valued, Good, weaker, past-past, IsOne, StopsAt, at_token}
use Rattle.tlsf_basic.proofs.Stopping.{ends_by, ends_operand, ends-append}
use Rattle.tlsf_basic.proofs.FormulaWhole.{made}

-- a class of tokens with which no operand ends
pub record Class (is : Symbol → Bool) : Type 0 where
  pub no_end : is s.End ≡ false
  pub quiet : (y : Symbol) → is y ≡ true → ends_by y ≡ false
  pub one : Symbol
  pub is_one : is one ≡ true

abbrev pub Classes : List (Symbol → Bool) → Type 0
Classes [] = Unit {0}
Classes (is ∷ others) = Class is × Classes others

quiet_title : (y : Symbol) → is_title y ≡ true → ends_by y ≡ false
quiet_title s.Title e = refl
quiet_title y e = cc

pub title_class : Class is_title
title_class = record { no_end = refl; quiet = quiet_title; one = s.Title; is_one = refl }

quiet_description : (y : Symbol) → is_description y ≡ true → ends_by y ≡ false
quiet_description s.Description e = refl
quiet_description y e = cc

pub description_class : Class is_description
description_class = record { no_end = refl; quiet = quiet_description; one = s.Description; is_one = refl }

quiet_semantics : (y : Symbol) → is_semantics y ≡ true → ends_by y ≡ false
quiet_semantics s.Semantics e = refl
quiet_semantics y e = cc

pub semantics_class : Class is_semantics
semantics_class = record { no_end = refl; quiet = quiet_semantics; one = s.Semantics; is_one = refl }

quiet_target : (y : Symbol) → is_target y ≡ true → ends_by y ≡ false
quiet_target s.Target e = refl
quiet_target y e = cc

pub target_class : Class is_target
target_class = record { no_end = refl; quiet = quiet_target; one = s.Target; is_one = refl }

quiet_tags : (y : Symbol) → is_tags y ≡ true → ends_by y ≡ false
quiet_tags s.Tags e = refl
quiet_tags y e = cc

pub tags_class : Class is_tags
tags_class = record { no_end = refl; quiet = quiet_tags; one = s.Tags; is_one = refl }

quiet_colon : (y : Symbol) → is_colon y ≡ true → ends_by y ≡ false
quiet_colon s.Colon e = refl
quiet_colon y e = cc

pub colon_class : Class is_colon
colon_class = record { no_end = refl; quiet = quiet_colon; one = s.Colon; is_one = refl }

quiet_text : (y : Symbol) → is_text y ≡ true → ends_by y ≡ false
quiet_text s.Text e = refl
quiet_text y e = cc

pub text_class : Class is_text
text_class = record { no_end = refl; quiet = quiet_text; one = s.Text; is_one = refl }

quiet_comma : (y : Symbol) → is_comma y ≡ true → ends_by y ≡ false
quiet_comma s.Comma e = refl
quiet_comma y e = cc

pub comma_class : Class is_comma
comma_class = record { no_end = refl; quiet = quiet_comma; one = s.Comma; is_one = refl }

quiet_kind : (y : Symbol) → is_kind y ≡ true → ends_by y ≡ false
quiet_kind (s.Kind kind) e = refl
quiet_kind y e = cc

pub kind_class : Class is_kind
kind_class = record { no_end = refl; quiet = quiet_kind; one = s.Kind Mealy; is_one = refl }

quiet_strict : (y : Symbol) → is_strict y ≡ true → ends_by y ≡ false
quiet_strict s.Strict e = refl
quiet_strict y e = cc

pub strict_class : Class is_strict
strict_class = record { no_end = refl; quiet = quiet_strict; one = s.Strict; is_one = refl }

quiet_name : (y : Symbol) → is_name y ≡ true → ends_by y ≡ false
quiet_name s.Name e = refl
quiet_name (s.Kind kind) e = refl
quiet_name s.Strict e = refl
quiet_name y e = cc

pub name_class : Class is_name
name_class = record { no_end = refl; quiet = quiet_name; one = s.Name; is_one = refl }

quiet_info : (y : Symbol) → is_info y ≡ true → ends_by y ≡ false
quiet_info s.Info e = refl
quiet_info y e = cc

pub info_class : Class is_info
info_class = record { no_end = refl; quiet = quiet_info; one = s.Info; is_one = refl }

quiet_main : (y : Symbol) → is_main y ≡ true → ends_by y ≡ false
quiet_main s.Main e = refl
quiet_main y e = cc

pub main_class : Class is_main
main_class = record { no_end = refl; quiet = quiet_main; one = s.Main; is_one = refl }

quiet_open_brace : (y : Symbol) → is_open_brace y ≡ true → ends_by y ≡ false
quiet_open_brace s.OpenBrace e = refl
quiet_open_brace y e = cc

pub open_brace_class : Class is_open_brace
open_brace_class = record { no_end = refl; quiet = quiet_open_brace; one = s.OpenBrace; is_one = refl }

quiet_close_brace : (y : Symbol) → is_close_brace y ≡ true → ends_by y ≡ false
quiet_close_brace s.CloseBrace e = refl
quiet_close_brace y e = cc

pub close_brace_class : Class is_close_brace
close_brace_class = record { no_end = refl; quiet = quiet_close_brace; one = s.CloseBrace; is_one = refl }

quiet_declared : (y : Symbol) → is_declared y ≡ true → ends_by y ≡ false
quiet_declared (s.Declared side) e = refl
quiet_declared y e = cc

pub declared_class : Class is_declared
declared_class = record { no_end = refl; quiet = quiet_declared; one = s.Declared Input; is_one = refl }

quiet_semicolon : (y : Symbol) → is_semicolon y ≡ true → ends_by y ≡ false
quiet_semicolon s.Semicolon e = refl
quiet_semicolon y e = cc

pub semicolon_class : Class is_semicolon
semicolon_class = record { no_end = refl; quiet = quiet_semicolon; one = s.Semicolon; is_one = refl }

quiet_inputs : (y : Symbol) → is_inputs y ≡ true → ends_by y ≡ false
quiet_inputs s.Inputs e = refl
quiet_inputs y e = cc

pub inputs_class : Class is_inputs
inputs_class = record { no_end = refl; quiet = quiet_inputs; one = s.Inputs; is_one = refl }

quiet_outputs : (y : Symbol) → is_outputs y ≡ true → ends_by y ≡ false
quiet_outputs s.Outputs e = refl
quiet_outputs y e = cc

pub outputs_class : Class is_outputs
outputs_class = record { no_end = refl; quiet = quiet_outputs; one = s.Outputs; is_one = refl }

quiet_section : (y : Symbol) → is_section y ≡ true → ends_by y ≡ false
quiet_section (s.Section kind) e = refl
quiet_section y e = cc

pub section_class : Class is_section
section_class = record { no_end = refl; quiet = quiet_section; one = s.Section section.Assert; is_one = refl }

pub row_quiet : (classes : List (Symbol → Bool)) → Classes classes → (w : List Lexeme) → IsRow classes w → ends_operand w ≡ false
row_quiet [] k [] h = refl
row_quiet [] k (t ∷ w) h = absurd h
row_quiet (is ∷ others) k [] h = absurd h
row_quiet (is ∷ others) k (t ∷ w) h = ends-append (t ∷ []) w (k.0.quiet t.symbol h.0) (row_quiet others k.1 w h.1)

pub begins_row_quiet : (classes : List (Symbol → Bool)) → Classes classes → (w : List Lexeme) → BeginsRow classes w → ends_operand w ≡ false
begins_row_quiet classes k [] h = refl
begins_row_quiet [] k (t ∷ w) h = absurd h
begins_row_quiet (is ∷ others) k (t ∷ w) h = ends-append (t ∷ []) w (k.0.quiet t.symbol h.0) (begins_row_quiet others k.1 w h.1)

-- the first tokens of a row go on to a whole one
pub row_whole : (classes : List (Symbol → Bool)) → Classes classes → (w : List Lexeme) → BeginsRow classes w → (x : List Lexeme) × IsRow classes (w ++ x)
row_whole [] k [] h = ([], tt)
row_whole (is ∷ others) k [] h = let (x, row) = row_whole others k.1 [] tt in (made k.0.one ∷ x, (k.0.is_one, row))
row_whole [] k (t ∷ w) h = absurd h
row_whole (is ∷ others) k (t ∷ w) h = let (x, row) = row_whole others k.1 w h.1 in (x, (h.0, row))

pub mark_read : (is : Symbol → Bool) (t : Lexeme) (v : List Lexeme) → is t.symbol ≡ true → mark is (t ∷ v) ≡ Ok v
unfolding mark
mark_read is t v e = rw e refl

pub mark_fails : (is : Symbol → Bool) (w : List Lexeme) → is (front w) ≡ false → mark is w ≡ Err (expected w, w)
unfolding mark
mark_fails is w e = rw e refl

abbrev pub RowStop : List (Symbol → Bool) → Stops
RowStop classes p f v = BeginsRow classes p × (f ≡ expected v)

module _ (Fits : TextFault → Type 0) where
  pub at_mark : (is : Symbol → Bool) → Class is → (w : List Lexeme) → Good Fits (IsOne is) (StopsAt is expected_by) (Passed (mark is)) w (valued (mark is w))
  unfolding mark
  at_mark is k w = at_token Fits is expected_by k.no_end w

  -- two tokens
  pub at_pair : (is two : Symbol → Bool) → Class is → Class two → (w : List Lexeme) → Good Fits (λ u a. IsRow (is ∷ two ∷ []) u) (RowStop (is ∷ two ∷ [])) (Passed (λ x. mark is x >>= mark two)) w (valued (mark is w >>= mark two))
  at_pair is two k l w =
      past-past Fits (IsOne is) (StopsAt is expected_by) (mark is) (mark two) (λ u a. IsRow (is ∷ two ∷ []) u) (RowStop (is ∷ two ∷ [])) w (mark is w) (mark two)
      (at_mark is k w)
      (λ p f v h. (subst (BeginsRow (is ∷ two ∷ [])) (sym h.0) tt, h.1))
      (λ u v e one. second u v one)
    where
      second : (u v : List Lexeme) → IsOne is u tt → Good Fits (λ x b. IsRow (is ∷ two ∷ []) (u ++ x)) (λ p f z. RowStop (is ∷ two ∷ []) (u ++ p) f z) (Passed (mark two)) v (valued (mark two v))
      second u v (t, eu, h) =
          weaker Fits (IsOne two) (λ x b. IsRow (is ∷ two ∷ []) (u ++ x)) (StopsAt two expected_by) (λ p f z. RowStop (is ∷ two ∷ []) (u ++ p) f z) (Passed (mark two)) (Passed (mark two)) v (valued (mark two v))
          (λ x b one. subst (λ q. IsRow (is ∷ two ∷ []) (q ++ x)) (sym eu) (subst (λ q. IsRow (is ∷ two ∷ []) (t ∷ q)) (sym one.1) (h, (one.2, tt))))
          (λ p f z stop. (subst (λ q. BeginsRow (is ∷ two ∷ []) (q ++ p)) (sym eu) (subst (λ q. BeginsRow (is ∷ two ∷ []) (t ∷ q)) (sym stop.0) (h, tt)), stop.1))
          (λ x q o. o) (at_mark two l v)
