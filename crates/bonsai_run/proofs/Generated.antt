-- The texts of arbiters are read: they have no fault, and their formula is the one that they show.
use Rattle.std.proofs.Common.{◌≡◌, ℕ, zero, suc, ◌≤◌, Bool, true, false, not, ◌&&◌, List, [], ◌∷◌, ◌++◌, take, slice_get, Result, Ok, Err, Option, Some, None, sym, refl, ap, ◌∙◌, subst, arith, append_assoc, append-nil}
use Rattle.std.proofs.lemmas.Option.{same_Some, none-some}
use Rattle.ltl_form.specs.declared.formulas.Ltl.{Ltl}
use Rattle.spec_gen.specs.Arbiter.{arbiter_text}
use Rattle.word_core.specs.declared.names.Target.{Target}
use Rattle.word_core.specs.declared.names.Target.TheVariants.{Mealy, Moore}
use Rattle.tlsf_lex.specs.declared.tokens.Token.{Token}
use Rattle.tlsf_lex.specs.Tokens.{Placed, tokens_at, tokens_of}
use Rattle.tlsf_basic.specs.declared.faults.TextFault.{TextFault}
use Rattle.tlsf_basic.specs.declared.headings.Heading.{Heading}
use Rattle.tlsf_basic.specs.declared.mains.Sections.{Sections}
use Rattle.tlsf_basic.specs.declared.symbols.Lexeme.{Lexeme}
use Rattle.tlsf_basic.specs.declared.specifications.Spec.{Spec}
use Rattle.tlsf_basic.specs.declared.words.Zone.TheVariants as zone
use Rattle.tlsf_basic.specs.Composition.{formula_of}
use Rattle.tlsf_basic.specs.Formulas.{nested, read_all, read_all_from, read_any_from, read_arrow, read_arrow_from, read_atom, read_conjuncts, read_disjuncts, read_formula, read_implied, read_parens, read_prefixed, read_second, read_unary}
use Rattle.tlsf_basic.specs.Headings.{close_heading, read_description, read_heading, read_item, read_items, read_kind, read_semantics, read_semantics_item, read_string, read_tag_item, read_tags, read_target_item, read_title}
use Rattle.tlsf_basic.specs.Mains.{close_main, read_declared, read_entries, read_entry, read_inputs, read_main, read_names, read_outputs, read_part, read_parts, read_section, read_text}
use Rattle.tlsf_basic.specs.Marks.{closing, end, mark, part_word}
use Rattle.tlsf_basic.specs.Reads.{Halt, passes, turns}
use Rattle.tlsf_basic.specs.Signals.{numbered, is_repeated, is_undeclared}
use Rattle.tlsf_basic.specs.Specification.{all_declared, repeated, undeclared, IsLexed, IsFault, no_tokens, no_text, of_names, of_target, of_number, IsSpec}
use Rattle.tlsf_basic.specs.Words.{lexemes_of, word_symbol}
use Rattle.tlsf_basic.proofs.Exact.{only_fault, only_text}
use Rattle.bonsai_run.specs.Generated.{arbiter_formula}

clash : false ≡ true → ⊥
clash e = cc

left : (a b : Bool) → a && b ≡ true → a ≡ true
left true b h = refl
left false b h = h

right : (a b : Bool) → a && b ≡ true → b ≡ true
right true b h = h
right false b h = absurd (clash h)

not_true : (a : Bool) → not a ≡ true → a ≡ false
not_true true h = sym h
not_true false h = refl

-- ---- a text that is read, by computing

-- no lexeme passes a test of it and of those before it
unfoldable never : (List Lexeme → Lexeme → Bool) → List Lexeme → List Lexeme → Bool
never test before [] = true
never test before (l ∷ w) = not (test before l) && never test (before ++ l ∷ []) w

never_is : (test : List Lexeme → Lexeme → Bool) (before w : List Lexeme) → never test before w ≡ true → (i : ℕ) (l : Lexeme) → slice_get w i ≡ Some l → test (before ++ take i w) l ≡ false
unfolding never
never_is test before [] h i l e = absurd (none-some l e)
never_is test before (x ∷ w) h zero l e =
    ap (λ z. test z l) (append-nil before) ∙ ap (test before) (sym (same_Some x l e)) ∙ not_true (test before x) (left (not (test before x)) (never test (before ++ x ∷ []) w) h)
never_is test before (x ∷ w) h (suc i) l e =
    ap (λ z. test z l) (sym (append_assoc before (x ∷ []) (take i w)))
    ∙ never_is test (before ++ x ∷ []) w (right (not (test before x)) (never test (before ++ x ∷ []) w) h) i l e

abbrev same_kind : Target → Target → Bool
same_kind Mealy Mealy = true
same_kind Mealy Moore = false
same_kind Moore Mealy = false
same_kind Moore Moore = true

kinds_same : (a b : Target) → same_kind a b ≡ true → a ≡ b
kinds_same Mealy Mealy h = refl
kinds_same Mealy Moore h = absurd (clash h)
kinds_same Moore Mealy h = absurd (clash h)
kinds_same Moore Moore h = refl

abbrev is_absent : Option Lexeme → Bool
is_absent None = true
is_absent (Some l) = false

abbrev agrees : Result (Heading × Sections) Halt → Bool
agrees (Ok x) = same_kind x.0.target.target x.0.semantics.kind
agrees (Err e) = false

abbrev formula_read : Result (Heading × Sections) Halt → Option Ltl
formula_read (Ok x) = Some (formula_of x.0.semantics.strict x.1)
formula_read (Err e) = None

abbrev read_at : List ℕ → List Lexeme → Result (Heading × Sections) Halt
read_at text v = read_text 256 (numbered text v)

abbrev passes_at : List ℕ → List Lexeme → Bool
passes_at text v = agrees (read_at text v) && (never (is_repeated text) [] (numbered text v) && (never is_undeclared [] (numbered text v) && is_absent (slice_get (all_declared v) 40)))

abbrev passes_by : List ℕ → Result (List Token) Placed → Bool
passes_by text (Ok ts) = passes_at text (lexemes_of text zone.Heading ts)
passes_by text (Err e) = false

abbrev formula_by : List ℕ → Result (List Token) Placed → Option Ltl
formula_by text (Ok ts) = formula_read (read_at text (lexemes_of text zone.Heading ts))
formula_by text (Err e) = None

-- the text has tokens, they are of the grammar, its target agrees, and its names are in order
unfoldable is_passed : List ℕ → Bool
is_passed text = passes_by text (tokens_of text)

-- the formula of the text
unfoldable formula_in : List ℕ → Option Ltl
formula_in text = formula_by text (tokens_of text)

module _ (text : List ℕ) (passed : is_passed text ≡ true) where
  passed_at : (v : List Lexeme) → IsLexed text v → passes_at text v ≡ true
  unfolding is_passed
  passed_at v (ts, et, ev) = subst (λ u. passes_at text u ≡ true) (sym ev) (subst (λ r. passes_by text r ≡ true) et passed)

  agreed : (v : List Lexeme) → IsLexed text v → agrees (read_at text v) ≡ true
  agreed v lexed =
      left (agrees (read_at text v)) (never (is_repeated text) [] (numbered text v) && (never is_undeclared [] (numbered text v) && is_absent (slice_get (all_declared v) 40))) (passed_at v lexed)

  names_good : (v : List Lexeme) → IsLexed text v → never (is_repeated text) [] (numbered text v) && (never is_undeclared [] (numbered text v) && is_absent (slice_get (all_declared v) 40)) ≡ true
  names_good v lexed =
      right (agrees (read_at text v)) (never (is_repeated text) [] (numbered text v) && (never is_undeclared [] (numbered text v) && is_absent (slice_get (all_declared v) 40))) (passed_at v lexed)

  not_repeated : (v : List Lexeme) → IsLexed text v → never (is_repeated text) [] (numbered text v) ≡ true
  not_repeated v lexed = left (never (is_repeated text) [] (numbered text v)) (never is_undeclared [] (numbered text v) && is_absent (slice_get (all_declared v) 40)) (names_good v lexed)

  rest_good : (v : List Lexeme) → IsLexed text v → never is_undeclared [] (numbered text v) && is_absent (slice_get (all_declared v) 40) ≡ true
  rest_good v lexed = right (never (is_repeated text) [] (numbered text v)) (never is_undeclared [] (numbered text v) && is_absent (slice_get (all_declared v) 40)) (names_good v lexed)

  -- a text that is read has no fault
  no_fault : (as_written : Bool) (what : TextFault) (place : ℕ) → IsFault text as_written what place → ⊥
  unfolding is_passed
  no_fault as_written what place (no_tokens found at e) = clash (subst (λ r. passes_by text r ≡ true) e passed)
  no_fault as_written what place (no_text v found rest lexed fault) = clash (subst (λ r. agrees r ≡ true) (only_fault (numbered text v) found rest fault) (agreed v lexed))
  no_fault as_written what place (of_names v heading all found at lexed is (repeated l (i, e, t, none))) =
      clash (sym (never_is (is_repeated text) [] (numbered text v) (not_repeated v lexed) i l e) ∙ t)
  no_fault as_written what place (of_names v heading all found at lexed is (undeclared l before (i, e, t, none))) =
      clash (sym (never_is is_undeclared [] (numbered text v) (left (never is_undeclared [] (numbered text v)) (is_absent (slice_get (all_declared v) 40)) (rest_good v lexed)) i l e) ∙ t)
  no_fault as_written what place (of_target v heading all lexed is named strict differs) =
      differs (kinds_same heading.target.target heading.semantics.kind (subst (λ r. agrees r ≡ true) (only_text (numbered text v) (heading, all) is) (agreed v lexed)))
  no_fault as_written what place (of_number v heading all l lexed is named agreeing e) =
      clash (subst (λ o. is_absent o ≡ true) e (right (never is_undeclared [] (numbered text v)) (is_absent (slice_get (all_declared v) 40)) (rest_good v lexed)))

-- the formula of a specification is that of its text
formula_is : (text : List ℕ) (as_written : Bool) (spec : Spec) → IsSpec text as_written spec → formula_in text ≡ Some spec.formula
unfolding formula_in
formula_is text as_written spec s = by s.lexed
  where
    by : IsLexed text s.lexemes → formula_by text (tokens_of text) ≡ Some spec.formula
    by (ts, et, ev) =
        ap (formula_by text) et ∙ ap (λ v. formula_read (read_at text v)) (sym ev)
        ∙ ap formula_read (only_text (numbered text s.lexemes) (s.heading, s.sections) s.read) ∙ ap Some (sym s.formula)

-- ---- the arbiters

arbiter_passed : (n : ℕ) → 1 ≤ n → n ≤ 8 → is_passed (arbiter_text n) ≡ true
unfolding is_passed formula_in never tokens_at lexemes_of word_symbol numbered turns passes mark closing end part_word nested read_all read_all_from read_any_from read_arrow read_arrow_from read_atom read_conjuncts read_disjuncts read_formula read_implied read_parens read_prefixed read_second read_unary close_heading read_description read_heading read_item read_items read_kind read_semantics read_semantics_item read_string read_tag_item read_tags read_target_item read_title close_main read_declared read_entries read_entry read_inputs read_main read_names read_outputs read_part read_parts read_section read_text
arbiter_passed zero some few = absurd (omega (arith, some))
arbiter_passed (suc zero) some few = refl
arbiter_passed (suc (suc zero)) some few = refl
arbiter_passed (suc (suc (suc zero))) some few = refl
arbiter_passed (suc (suc (suc (suc zero)))) some few = refl
arbiter_passed (suc (suc (suc (suc (suc zero))))) some few = refl
arbiter_passed (suc (suc (suc (suc (suc (suc zero)))))) some few = refl
arbiter_passed (suc (suc (suc (suc (suc (suc (suc zero))))))) some few = refl
arbiter_passed (suc (suc (suc (suc (suc (suc (suc (suc zero)))))))) some few = refl
arbiter_passed (suc (suc (suc (suc (suc (suc (suc (suc (suc n))))))))) some few = absurd (omega (arith, few))

arbiter_formula_in : (n : ℕ) → 1 ≤ n → n ≤ 8 → formula_in (arbiter_text n) ≡ Some (arbiter_formula n)
unfolding is_passed formula_in never tokens_at lexemes_of word_symbol numbered turns passes mark closing end part_word nested read_all read_all_from read_any_from read_arrow read_arrow_from read_atom read_conjuncts read_disjuncts read_formula read_implied read_parens read_prefixed read_second read_unary close_heading read_description read_heading read_item read_items read_kind read_semantics read_semantics_item read_string read_tag_item read_tags read_target_item read_title close_main read_declared read_entries read_entry read_inputs read_main read_names read_outputs read_part read_parts read_section read_text
arbiter_formula_in zero some few = absurd (omega (arith, some))
arbiter_formula_in (suc zero) some few = refl
arbiter_formula_in (suc (suc zero)) some few = refl
arbiter_formula_in (suc (suc (suc zero))) some few = refl
arbiter_formula_in (suc (suc (suc (suc zero)))) some few = refl
arbiter_formula_in (suc (suc (suc (suc (suc zero))))) some few = refl
arbiter_formula_in (suc (suc (suc (suc (suc (suc zero)))))) some few = refl
arbiter_formula_in (suc (suc (suc (suc (suc (suc (suc zero))))))) some few = refl
arbiter_formula_in (suc (suc (suc (suc (suc (suc (suc (suc zero)))))))) some few = refl
arbiter_formula_in (suc (suc (suc (suc (suc (suc (suc (suc (suc n))))))))) some few = absurd (omega (arith, few))

-- the text of an arbiter has no fault
pub arbiter_has_no_fault : (n : ℕ) → 1 ≤ n → n ≤ 8 → (as_written : Bool) (what : TextFault) (place : ℕ) → IsFault (arbiter_text n) as_written what place → ⊥
arbiter_has_no_fault n some few = no_fault (arbiter_text n) (arbiter_passed n some few)

-- and its formula is the one that it shows
pub arbiter_shows : (n : ℕ) → 1 ≤ n → n ≤ 8 → (as_written : Bool) (spec : Spec) → IsSpec (arbiter_text n) as_written spec → spec.formula ≡ arbiter_formula n
arbiter_shows n some few as_written spec is =
    same_Some spec.formula (arbiter_formula n) (sym (formula_is (arbiter_text n) as_written spec is) ∙ arbiter_formula_in n some few)
