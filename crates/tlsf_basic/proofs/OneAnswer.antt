-- A text has one answer: the relations are those of a function.
use Rattle.std.proofs.Common.{◌≡◌, ℕ, zero, suc, ◌<◌, Bool, true, false, cond, List, [], ◌∷◌, ◌++◌, length, take, map, slice_get, Result, Ok, Err, Option, Some, None, sym, refl, ap, ◌∙◌, subst, arith, append_assoc, append-nil}
use Rattle.std.proofs.lemmas.Option.{same_Some, none-some, slice_get_past}
use Rattle.word_core.specs.declared.names.Target.{Target}
use Rattle.word_core.specs.declared.names.Target.TheVariants.{Mealy, Moore}
use Rattle.tlsf_lex.specs.declared.tokens.Token.{Token}
use Rattle.tlsf_lex.specs.Tokens.{Placed, tokens_of}
use Rattle.tlsf_basic.specs.declared.faults.TextFault.{TextFault}
use Rattle.tlsf_basic.specs.declared.faults.TextFault.TheVariants.{Lex, DuplicateSignal, UnknownSignal, MixedTarget, TooManySignals}
use Rattle.tlsf_basic.specs.declared.headings.Heading.{Heading}
use Rattle.tlsf_basic.specs.declared.mains.Sections.{Sections}
use Rattle.tlsf_basic.specs.declared.symbols.Lexeme.{Lexeme}
use Rattle.tlsf_basic.specs.declared.specifications.Spec.{Spec}
use Rattle.tlsf_basic.specs.declared.words.Zone.TheVariants as zone
use Rattle.tlsf_basic.specs.Reads.{Halt}
use Rattle.tlsf_basic.specs.Words.{lexemes_of}
use Rattle.tlsf_basic.specs.Signals.{inputs_of, outputs_of, name_of, numbered, IsNever, is_repeated, is_undeclared}
use Rattle.tlsf_basic.specs.Mains.{read_text}
use Rattle.tlsf_basic.specs.Composition.{formula_of}
use Rattle.tlsf_basic.specs.TextGrammar.{IsText}
use Rattle.tlsf_basic.specs.Specification.{place_of, IsLexed, Agrees, AreNamed, all_declared, IsNameFault, repeated, undeclared, IsFault, no_tokens, no_text, of_names, of_target, of_number, IsSpec}
use Rattle.tlsf_basic.specs.Laws.{IsSameSpec, HasOneAnswer}
use Rattle.tlsf_basic.proofs.Exact.{only_text, only_fault}

-- the first lexeme that passes a test, behind those before the list
first : (List Lexeme → Lexeme → Bool) → List Lexeme → List Lexeme → Option Lexeme
first test before [] = None
first test before (l ∷ w) = cond (test before l) (Some l) (first test (before ++ l ∷ []) w)

first_found : (test : List Lexeme → Lexeme → Bool) (before w : List Lexeme) (i : ℕ) (l : Lexeme) → slice_get w i ≡ Some l → test (before ++ take i w) l ≡ true → ((k : ℕ) (m : Lexeme) → k < i → slice_get w k ≡ Some m → test (before ++ take k w) m ≡ false) → first test before w ≡ Some l
unfolding first
first_found test before [] i l e is none = absurd (none-some l e)
first_found test before (x ∷ w) zero l e is none =
    let same = same_Some x l e in
    ap (λ b. cond b (Some x) (first test (before ++ x ∷ []) w)) (ap (test before) same ∙ ap (λ z. test z l) (sym (append-nil before)) ∙ is) ∙ ap Some same
first_found test before (x ∷ w) (suc i) l e is none =
    ap (λ b. cond b (Some x) (first test (before ++ x ∷ []) w)) (ap (λ z. test z x) (sym (append-nil before)) ∙ none zero x (omega arith) refl)
    ∙ first_found test (before ++ x ∷ []) w i l e (ap (λ z. test z l) (append_assoc before (x ∷ []) (take i w)) ∙ is)
    (λ k m below em. ap (λ z. test z m) (append_assoc before (x ∷ []) (take k w)) ∙ none (suc k) m (omega (arith, below)) em)

first_none : (test : List Lexeme → Lexeme → Bool) (before w : List Lexeme) → ((k : ℕ) (m : Lexeme) → slice_get w k ≡ Some m → test (before ++ take k w) m ≡ false) → first test before w ≡ None
unfolding first
first_none test before [] none = refl
first_none test before (x ∷ w) none =
    ap (λ b. cond b (Some x) (first test (before ++ x ∷ []) w)) (ap (λ z. test z x) (sym (append-nil before)) ∙ none zero x refl)
    ∙ first_none test (before ++ x ∷ []) w (λ k m em. ap (λ z. test z m) (append_assoc before (x ∷ []) (take k w)) ∙ none (suc k) m em)

abbrev Answer : Type 0
Answer = Option (TextFault × ℕ)

abbrev same_kind : Target → Target → Bool
same_kind Mealy Mealy = true
same_kind Mealy Moore = false
same_kind Moore Mealy = false
same_kind Moore Moore = true

same_kind_is : (a b : Target) → a ≡ b → same_kind a b ≡ true
same_kind_is Mealy b e = ap (same_kind Mealy) (sym e)
same_kind_is Moore b e = ap (same_kind Moore) (sym e)

same_kind_not : (a b : Target) → (a ≡ b → ⊥) → same_kind a b ≡ false
same_kind_not Mealy Mealy differs = absurd (differs refl)
same_kind_not Mealy Moore differs = refl
same_kind_not Moore Mealy differs = refl
same_kind_not Moore Moore differs = absurd (differs refl)

abbrev by_count : Option Lexeme → Answer
by_count None = None
by_count (Some l) = Some (TooManySignals, l.from)

abbrev by_target : Bool → Bool → Heading → List Lexeme → Answer
by_target true same heading v = by_count (slice_get (all_declared v) 40)
by_target false true heading v = by_count (slice_get (all_declared v) 40)
by_target false false heading v = Some (MixedTarget, heading.target.place)

abbrev by_unknown : Option Lexeme → Bool → Heading → List Lexeme → Answer
by_unknown None as_written heading v = by_target as_written (same_kind heading.target.target heading.semantics.kind) heading v
by_unknown (Some l) as_written heading v = Some (UnknownSignal, l.from)

abbrev by_repeated : Option Lexeme → Bool → Heading → List Lexeme → List Lexeme → Answer
by_repeated None as_written heading v w = by_unknown (first is_undeclared [] w) as_written heading v
by_repeated (Some l) as_written heading v w = Some (DuplicateSignal, l.from)

abbrev by_text : Result (Heading × Sections) Halt → List ℕ → Bool → List Lexeme → List Lexeme → Answer
by_text (Ok x) text as_written v w = by_repeated (first (is_repeated text) [] w) as_written x.0 v w
by_text (Err h) text as_written v w = Some (h.0, place_of (length text) h.1)

abbrev of_lexemes : List ℕ → Bool → List Lexeme → Answer
of_lexemes text as_written v = by_text (read_text 256 (numbered text v)) text as_written v (numbered text v)

abbrev by_tokens : Result (List Token) Placed → List ℕ → Bool → Answer
by_tokens (Ok ts) text as_written = of_lexemes text as_written (lexemes_of text zone.Heading ts)
by_tokens (Err e) text as_written = Some (Lex e.0, e.1)

answer : List ℕ → Bool → Answer
answer text as_written = by_tokens (tokens_of text) text as_written

module _ (text : List ℕ) (as_written : Bool) where
  at_lexemes : (v : List Lexeme) → IsLexed text v → answer text as_written ≡ of_lexemes text as_written v
  unfolding answer
  at_lexemes v (ts, et, ev) = ap (λ r. by_tokens r text as_written) et ∙ ap (of_lexemes text as_written) (sym ev)

  at_text : (v : List Lexeme) (heading : Heading) (all : Sections) → IsLexed text v → IsText 256 (numbered text v) (heading, all) → answer text as_written ≡ by_repeated (first (is_repeated text) [] (numbered text v)) as_written heading v (numbered text v)
  at_text v heading all lexed is = at_lexemes v lexed ∙ ap (λ r. by_text r text as_written v (numbered text v)) (only_text (numbered text v) (heading, all) is)

  at_unrepeated : (v : List Lexeme) (heading : Heading) (all : Sections) → IsLexed text v → IsText 256 (numbered text v) (heading, all) → IsNever (is_repeated text) (numbered text v) → answer text as_written ≡ by_unknown (first is_undeclared [] (numbered text v)) as_written heading v
  at_unrepeated v heading all lexed is never =
      at_text v heading all lexed is ∙ ap (λ o. by_repeated o as_written heading v (numbered text v)) (first_none (is_repeated text) [] (numbered text v) never)

  at_named : (v : List Lexeme) (heading : Heading) (all : Sections) → IsLexed text v → IsText 256 (numbered text v) (heading, all) → AreNamed text (numbered text v) → answer text as_written ≡ by_target as_written (same_kind heading.target.target heading.semantics.kind) heading v
  at_named v heading all lexed is named =
      at_unrepeated v heading all lexed is named.0 ∙ ap (λ o. by_unknown o as_written heading v) (first_none is_undeclared [] (numbered text v) named.1)

  agrees_count : (heading : Heading) (v : List Lexeme) (b : Bool) → as_written ≡ b → Agrees as_written heading → by_target as_written (same_kind heading.target.target heading.semantics.kind) heading v ≡ by_count (slice_get (all_declared v) 40)
  agrees_count heading v true e agrees = ap (λ b. by_target b (same_kind heading.target.target heading.semantics.kind) heading v) e
  agrees_count heading v false e agrees =
      ap (λ b. by_target b (same_kind heading.target.target heading.semantics.kind) heading v) e
      ∙ ap (λ b. by_target false b heading v) (same_kind_is heading.target.target heading.semantics.kind (agrees e))

  at_agreed : (v : List Lexeme) (heading : Heading) (all : Sections) → IsLexed text v → IsText 256 (numbered text v) (heading, all) → AreNamed text (numbered text v) → Agrees as_written heading → answer text as_written ≡ by_count (slice_get (all_declared v) 40)
  at_agreed v heading all lexed is named agrees = at_named v heading all lexed is named ∙ agrees_count heading v as_written refl agrees

  at_names : (v : List Lexeme) (heading : Heading) (all : Sections) (what : TextFault) (place : ℕ) → IsLexed text v → IsText 256 (numbered text v) (heading, all) → IsNameFault text (numbered text v) what place → answer text as_written ≡ Some (what, place)
  at_names v heading all what place lexed is (repeated l (i, e, t, none)) =
      at_text v heading all lexed is ∙ ap (λ o. by_repeated o as_written heading v (numbered text v)) (first_found (is_repeated text) [] (numbered text v) i l e t none)
  at_names v heading all what place lexed is (undeclared l never (i, e, t, none)) =
      at_unrepeated v heading all lexed is never ∙ ap (λ o. by_unknown o as_written heading v) (first_found is_undeclared [] (numbered text v) i l e t none)

  at_fault : (what : TextFault) (place : ℕ) → IsFault text as_written what place → answer text as_written ≡ Some (what, place)
  unfolding answer
  at_fault what place (no_tokens what' place' e) = ap (λ r. by_tokens r text as_written) e
  at_fault what place (no_text v what' rest lexed fault) =
      at_lexemes v lexed ∙ ap (λ r. by_text r text as_written v (numbered text v)) (only_fault (numbered text v) what rest fault)
  at_fault what place (of_names v heading all what' place' lexed is fault) = at_names v heading all what place lexed is fault
  at_fault what place (of_target v heading all lexed is named strict differs) =
      at_named v heading all lexed is named
      ∙ ap (λ b. by_target b (same_kind heading.target.target heading.semantics.kind) heading v) strict
      ∙ ap (λ b. by_target false b heading v) (same_kind_not heading.target.target heading.semantics.kind differs)
  at_fault what place (of_number v heading all l lexed is named agrees e) = at_agreed v heading all lexed is named agrees ∙ ap by_count e

  at_spec : (spec : Spec) → IsSpec text as_written spec → answer text as_written ≡ None
  at_spec spec s =
      at_agreed s.lexemes s.heading s.sections s.lexed s.read s.named s.agrees ∙ ap by_count (slice_get_past (all_declared s.lexemes) 40 s.few)

  abbrev tokens_or : Result (List Token) Placed → List Token
  tokens_or (Ok ts) = ts
  tokens_or (Err e) = []

  same_lexemes : (v w : List Lexeme) → IsLexed text v → IsLexed text w → v ≡ w
  same_lexemes v w (ts, et, ev) (us, eu, ew) = ev ∙ ap (λ r. lexemes_of text zone.Heading (tokens_or r)) (sym et ∙ eu) ∙ sym ew

  abbrev text_or : Heading × Sections → Result (Heading × Sections) Halt → Heading × Sections
  text_or d (Ok x) = x
  text_or d (Err h) = d

  same_text : (w : List Lexeme) (x y : Heading × Sections) → IsText 256 w x → IsText 256 w y → x ≡ y
  same_text w x y one other = ap (text_or x) (sym (only_text w x one) ∙ only_text w y other)

  same_spec : (one other : Spec) → IsSpec text as_written one → IsSpec text as_written other → IsSameSpec one other
  same_spec one other s t =
      let v : s.lexemes ≡ t.lexemes = same_lexemes s.lexemes t.lexemes s.lexed t.lexed in
      let x : (s.heading, s.sections) ≡ (t.heading, t.sections) = same_text (numbered text s.lexemes) (s.heading, s.sections) (t.heading, t.sections) s.read (subst (λ z. IsText 256 (numbered text z) (t.heading, t.sections)) (sym v) t.read) in (
        s.inputs ∙ ap (λ z. map (name_of text) (inputs_of z)) v ∙ sym t.inputs,
        s.outputs ∙ ap (λ z. map (name_of text) (outputs_of z)) v ∙ sym t.outputs,
        s.target ∙ ap (λ z. z.0.target.target) x ∙ sym t.target,
        s.formula ∙ ap (λ z. formula_of z.0.semantics.strict z.1) x ∙ sym t.formula,
      )

pub one_answer : (text : List ℕ) (as_written : Bool) → HasOneAnswer text as_written
one_answer text as_written = (
  (λ what other place at one two.
      let e = same_Some (what, place) (other, at) (sym (at_fault text as_written what place one) ∙ at_fault text as_written other at two) in
      (ap (λ z. z.0) e, ap (λ z. z.1) e)),
  same_spec text as_written,
  (λ spec what place s fault. none-some (what, place) (sym (at_spec text as_written spec s) ∙ at_fault text as_written what place fault)),
)
