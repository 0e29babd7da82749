-- Reading gives Ok exactly on the texts of the grammar, with their values, and each fault exactly where it stands.
use Rattle.std.proofs.Common.{◌≡◌, ℕ, ◌+◌, ◌≤◌, Bool, true, false, List, [], ◌∷◌, ◌++◌, length, drop, Result, Ok, Err, Some, sym, refl, ap, ◌∙◌, subst, arith, append_assoc, append-nil, length-append}
use Rattle.ltl_form.specs.declared.formulas.Ltl.{Ltl}
use Rattle.tlsf_basic.specs.declared.faults.Part.{Part}
use Rattle.tlsf_basic.specs.declared.faults.Part.TheVariants as part
use Rattle.tlsf_basic.specs.declared.faults.TextFault.{TextFault}
use Rattle.tlsf_basic.specs.declared.faults.TextFault.TheVariants.{Expected, NeedsParens, TooDeep, FullFormat, MissingPart}
use Rattle.tlsf_basic.specs.declared.headings.Heading.{Heading}
use Rattle.tlsf_basic.specs.declared.mains.Sections.{Sections}
use Rattle.tlsf_basic.specs.declared.symbols.Symbol.{Symbol}
use Rattle.tlsf_basic.specs.declared.symbols.Symbol.TheVariants as s
use Rattle.tlsf_basic.specs.declared.symbols.Lexeme.{Lexeme}
use Rattle.tlsf_basic.specs.Reads.{Halt, ◌>>=◌, front, expected_by, expected, misplaced_by, misplaced, missing_by, missing}
use Rattle.tlsf_basic.specs.Marks.{mark, part_word, end, is_info, is_main, is_open_brace, is_close, is_close_brace}
use Rattle.tlsf_basic.specs.Headings.{read_heading, heading_by, close_heading, read_items}
use Rattle.tlsf_basic.specs.Mains.{read_main, read_parts, close_main, read_text}
use Rattle.tlsf_basic.specs.Grammar.{atom_value, IsUnary, is_atom, is_parens, is_prefixed}
use Rattle.tlsf_basic.specs.TextGrammar.{IsHeading, IsText, is_whole_text}
use Rattle.tlsf_basic.specs.TextBegins.{BeginsHeading, at_info, BeginsMain, at_main, whole_main, BeginsText, in_heading, behind_heading}
use Rattle.tlsf_basic.specs.TextFaults.{LacksInHeading, no_info, no_semantics, no_target, LacksInMain, no_main, no_inputs, no_outputs, Lacks, in_first, in_later, Begins, IsLongest, IsNoText, LacksPart, EndsOperand, is_full, is_operator, IsKind, of_full, of_missing, of_operator, of_other, IsGrammarFault, bad_token, deep_token}
use Rattle.tlsf_basic.proofs.Good.{Alike, alike-self}
use Rattle.tlsf_basic.proofs.Loops.{halt_of}
use Rattle.tlsf_basic.proofs.Stopping.{ends_by, ends_operand, ends-last, not_expected, not_parenthesized, at_depth, lacking}
use Rattle.tlsf_basic.proofs.MainGood.{sides}
use Rattle.tlsf_basic.proofs.TextRead.{class_is_close_brace, heading_up_to, heading_read, main_up_to}
use Rattle.tlsf_basic.proofs.TextGood.{TextStop, Halted, Outcome, outcome, text_read}
use Rattle.tlsf_basic.proofs.TextWhole.{text_whole}

abbrev Text : Type 0
Text = Heading × Sections

abbrev failed : Halt → Result Text Halt
failed h = Err h

-- lists

abbrev first_of : Lexeme → List Lexeme → Lexeme
first_of d [] = d
first_of d (t ∷ w) = t

cancel : (p q v : List Lexeme) → p ++ v ≡ q ++ v → p ≡ q
cancel [] [] v e = refl
cancel [] (t ∷ q) v e = absurd (omega (arith, ap length e, length-append q v))
cancel (t ∷ p) [] v e = absurd (omega (arith, ap length e, length-append p v))
cancel (t ∷ p) (u ∷ q) v e = ap (λ z. z ∷ p) (ap (first_of t) e) ∙ ap (λ z. u ∷ z) (cancel p q v (ap (drop 1) e))

-- of two fronts of one list one is a front of the other
data Compared (p v q r : List Lexeme) : Type 0 where
  no_shorter : (x : List Lexeme) → q ≡ p ++ x → v ≡ x ++ r → Compared p v q r
  no_longer : (x : List Lexeme) → p ≡ q ++ x → r ≡ x ++ v → Compared p v q r

compared-cons : (t u : Lexeme) (p v q r : List Lexeme) → t ≡ u → Compared p v q r → Compared (t ∷ p) v (u ∷ q) r
compared-cons t u p v q r e (no_shorter x a b) = no_shorter x (ap (λ z. z ∷ q) (sym e) ∙ ap (λ z. t ∷ z) a) b
compared-cons t u p v q r e (no_longer x a b) = no_longer x (ap (λ z. z ∷ p) e ∙ ap (λ z. u ∷ z) a) b

compare : (p v q r : List Lexeme) → p ++ v ≡ q ++ r → Compared p v q r
compare [] v q r e = no_shorter q refl e
compare (t ∷ p) v [] r e = no_longer (t ∷ p) refl (sym e)
compare (t ∷ p) v (u ∷ q) r e = compared-cons t u p v q r (ap (first_of t) e) (compare p v q r (ap (drop 1) e))

-- symbols

expected_full : (y : Symbol) → is_full y ≡ true → expected_by y ≡ FullFormat
expected_full s.Full e = refl
expected_full y e = cc

misplaced_full : (y : Symbol) → is_full y ≡ true → misplaced_by y ≡ FullFormat
misplaced_full s.Full e = refl
misplaced_full y e = cc

missing_full : (which : Part) (y : Symbol) → is_full y ≡ true → missing_by which y ≡ FullFormat
missing_full which s.Full e = refl
missing_full which y e = cc

expected_other : (y : Symbol) → is_full y ≡ false → expected_by y ≡ Expected
expected_other s.Full e = cc
expected_other y e = refl

missing_other : (which : Part) (y : Symbol) → is_full y ≡ false → missing_by which y ≡ MissingPart which
missing_other which s.Full e = cc
missing_other which y e = refl

misplaced_operator : (y : Symbol) → is_operator y ≡ true → misplaced_by y ≡ NeedsParens
misplaced_operator s.And e = refl
misplaced_operator s.Or e = refl
misplaced_operator s.Arrow e = refl
misplaced_operator (s.Lone op) e = refl
misplaced_operator y e = cc

misplaced_other : (y : Symbol) → is_full y ≡ false → is_operator y ≡ false → misplaced_by y ≡ Expected
misplaced_other s.Full e f = cc
misplaced_other s.And e f = cc
misplaced_other s.Or e f = cc
misplaced_other s.Arrow e f = cc
misplaced_other (s.Lone op) e f = cc
misplaced_other y e f = refl

abbrev Shallow : TextFault → Type 0
Shallow f = f ≡ TooDeep → ⊥

expected_shallow : (y : Symbol) → Shallow (expected_by y)
expected_shallow s.Full e = cc
expected_shallow y e = cc

misplaced_shallow : (y : Symbol) → Shallow (misplaced_by y)
misplaced_shallow s.Full e = cc
misplaced_shallow s.And e = cc
misplaced_shallow s.Or e = cc
misplaced_shallow s.Arrow e = cc
misplaced_shallow (s.Lone op) e = cc
misplaced_shallow y e = cc

missing_shallow : (which : Part) (y : Symbol) → Shallow (missing_by which y)
missing_shallow which s.Full e = cc
missing_shallow which y e = cc

-- an operand ends with one of its last tokens

atom_ends : (y : Symbol) (f : Ltl) → atom_value y ≡ Some f → ends_by y ≡ true
atom_ends s.True f e = refl
atom_ends s.False f e = refl
atom_ends (s.Signal k) f e = refl
atom_ends s.Unknown f e = refl
atom_ends y f e = cc

close_ends : (y : Symbol) → is_close y ≡ true → ends_by y ≡ true
close_ends s.Close e = refl
close_ends y e = cc

unary_ends : {n : ℕ} {u : List Lexeme} {f : Ltl} → IsUnary n u f → (q : List Lexeme) → ends_operand (q ++ u) ≡ true
unary_ends (is_atom {f = f} t e) q = ends-last q t [] ∙ atom_ends t.symbol f e
unary_ends (is_parens t c w o x e) q = ap ends_operand (sym (append_assoc q (t ∷ w) (c ∷ []))) ∙ ends-last (q ++ t ∷ w) c [] ∙ close_ends c.symbol e
unary_ends (is_prefixed t op w e x) q = ap ends_operand (sym (append_assoc q (t ∷ []) w)) ∙ unary_ends x (q ++ t ∷ [])

operand_ends : (p : List Lexeme) → EndsOperand p → ends_operand p ≡ true
operand_ends p (n, q, u, f, e, x, open_) = ap ends_operand e ∙ unary_ends x q

-- what reading stops at

abbrev Any : TextFault → Type 0
Any f = Unit {0}

module _ (w : List Lexeme) (f : TextFault) (v : List Lexeme) (is : read_text 256 w ≡ Err (f, v)) where
  same_levels : Halted Any 256 256 (omega arith) (λ h. refl) w f v
  same_levels = subst (Outcome Any 256 256 (omega arith) (λ h. refl) w) is (outcome Any 256 256 (omega arith) (λ h. refl) w)

  more_levels : (k : ℕ) → Halted Shallow 256 (k + 256) (omega arith) (λ h. absurd (h refl)) w f v
  more_levels k = subst (Outcome Shallow 256 (k + 256) (omega arith) (λ h. absurd (h refl)) w) is (outcome Shallow 256 (k + 256) (omega arith) (λ h. absurd (h refl)) w)

  -- the tokens before the stop
  before : List Lexeme
  before = same_levels.0

  split_at : w ≡ before ++ v
  unfolding before
  split_at = same_levels.1

  stopped : TextStop 256 before f v
  unfolding before
  stopped = same_levels.2

  again : (x : List Lexeme) → Alike v x → read_text 256 (before ++ x) ≡ Err (f, x)
  unfolding before
  again x al = same_levels.3 tt x al

  again_deeper : (k : ℕ) → Shallow f → (x : List Lexeme) → Alike v x → read_text (k + 256) (before ++ x) ≡ Err (f, x)
  again_deeper k sh x al =
      let h = more_levels k in
      subst (λ p. read_text (k + 256) (p ++ x) ≡ Err (f, x)) (cancel h.0 before v (sym h.1 ∙ split_at)) (h.3 sh x al)

  -- no longer list begins a text, since it would go on to one that is read
  not_begun : (n m : ℕ) → n ≤ m → ((x : List Lexeme) → Alike v x → read_text m (before ++ x) ≡ Err (f, x)) → (q r : List Lexeme) → v ≡ q ++ r → BeginsText n (before ++ q) → q ≡ []
  not_begun n m le stops [] r e b = refl
  not_begun n m le stops (t ∷ q) r e b =
      let (x, y, text) = text_whole n (before ++ t ∷ q) b in
      let good : read_text m (before ++ (t ∷ q ++ x)) ≡ Ok y = ap (read_text m) (sym (append_assoc before (t ∷ q) x)) ∙ text_read n m ((before ++ t ∷ q) ++ x) y text le in
      let bad : read_text m (before ++ (t ∷ q ++ x)) ≡ Err (f, t ∷ q ++ x) = stops (t ∷ q ++ x) (subst (λ z. Alike z (t ∷ q ++ x)) (sym e) refl) in
      absurd (ok_err y (f, t ∷ q ++ x) (sym good ∙ bad)) where
        ok_err : (y : Text) (h : Halt) → Ok y ≡ Err h → ⊥
        ok_err y h e = cc

  not_text : (n m : ℕ) → n ≤ m → ((x : List Lexeme) → Alike v x → read_text m (before ++ x) ≡ Err (f, x)) → (y : Text) → IsText n w y → ⊥
  not_text n m le stops y text =
      ok_err y (f, v) (sym (text_read n m w y text le) ∙ ap (read_text m) split_at ∙ stops v (alike-self v)) where
        ok_err : (y : Text) (h : Halt) → Ok y ≡ Err h → ⊥
        ok_err y h e = cc

  longest_within : (q r : List Lexeme) → v ≡ q ++ r → BeginsText 256 (before ++ q) → q ≡ []
  longest_within q r e b = not_begun 256 256 (omega arith) again q r e b

  longest : Shallow f → (q r : List Lexeme) → v ≡ q ++ r → Begins (before ++ q) → q ≡ []
  longest sh q r e b = not_begun b.0 (b.0 + 256) (omega arith) (again_deeper b.0 sh) q r e b.1

  no_text : Shallow f → IsNoText w
  no_text sh n y text = not_text n (n + 256) (omega arith) (again_deeper n sh) y text

-- a part that is missing

word_absent : (is : Symbol → Bool) (which : Part) (v : List Lexeme) → is (front v) ≡ false → part_word is which v ≡ Err (missing which v, v)
unfolding part_word
word_absent is which v e = rw e refl

heading_absent : (v : List Lexeme) → is_info (front v) ≡ false → read_heading v ≡ Err (missing part.Info v, v)
unfolding read_heading
heading_absent v e = ap (λ q. q >>= mark is_open_brace >>= read_items >>= λ r. close_heading r.0 r.1) (word_absent is_info part.Info v e)

main_absent : (m : ℕ) (v : List Lexeme) → is_main (front v) ≡ false → read_main m v ≡ Err (missing part.Main v, v)
unfolding read_main
main_absent m v e = ap (λ q. q >>= mark is_open_brace >>= read_parts m >>= λ r. close_main r.0 r.1) (word_absent is_main part.Main v e)

not_front : (is : Symbol → Bool) (v : List Lexeme) → is s.End ≡ false → ((t : Lexeme) (r : List Lexeme) → v ≡ t ∷ r → is t.symbol ≡ true → ⊥) → is (front v) ≡ false
not_front is [] no_end none = no_end
not_front is (t ∷ r) no_end none = go (is t.symbol) refl where
  go : (b : Bool) → is t.symbol ≡ b → is t.symbol ≡ false
  go true e = absurd (none t r refl e)
  go false e = e

heading_fails : (m : ℕ) (w : List Lexeme) (e : Halt) → read_heading w ≡ Err e → read_text m w ≡ Err e
unfolding read_text
heading_fails m w e is = ap (λ r. r >>= λ r. read_main m r.1 >>= λ q. end q.1 >>= λ z. Ok (r.0, q.0)) is

main_fails : (m : ℕ) (u : List Lexeme) (h : Heading) (v : List Lexeme) (e : Halt) → IsHeading u h → read_main m v ≡ Err e → read_text m (u ++ v) ≡ Err e
unfolding read_text
main_fails m u h v e head is =
    ap (λ r. r >>= λ r. read_main m r.1 >>= λ q. end q.1 >>= λ z. Ok (r.0, q.0)) (heading_read u h head v)
    ∙ ap (λ r. r >>= λ q. end q.1 >>= λ z. Ok (h, q.0)) is

at_close : (which : Part) (c : Lexeme) (v : List Lexeme) → is_close_brace c.symbol ≡ true → MissingPart which ≡ missing which (c ∷ v)
at_close which c v ic = ap (missing_by which) (sym (class_is_close_brace c.symbol ic))

lacks_heading : (m : ℕ) (which : Part) (p v : List Lexeme) → LacksInHeading which p v → ((t : Lexeme) (r : List Lexeme) → v ≡ t ∷ r → BeginsHeading (p ++ t ∷ []) → ⊥) → read_heading (p ++ v) ≡ Err (missing which v, v)
lacks_heading m which p v (no_info v') longest = heading_absent v (not_front is_info v refl (λ t r e i. longest t r e (at_info (t ∷ []) (i, tt))))
lacks_heading m which p v (no_semantics a b w i c r row xs ic none) longest =
    heading_up_to a b w i c r row xs ic ∙ ap (λ q. heading_by q i.target (c ∷ r)) none ∙ ap (λ q. Err (q, c ∷ r)) (at_close part.Semantics c r ic)
lacks_heading m which p v (no_target a b w i c r x row xs ic some none) longest =
    heading_up_to a b w i c r row xs ic ∙ ap (λ q. heading_by q i.target (c ∷ r)) some ∙ ap (λ q. heading_by (Some x) q (c ∷ r)) none ∙ ap (λ q. Err (q, c ∷ r)) (at_close part.Target c r ic)

lacks_main : (n m : ℕ) → n ≤ m → (which : Part) (p v : List Lexeme) → LacksInMain n which p v → ((t : Lexeme) (r : List Lexeme) → v ≡ t ∷ r → BeginsMain n (p ++ t ∷ []) → ⊥) → read_main m (p ++ v) ≡ Err (missing which v, v)
lacks_main n m le which p v (no_main v') longest = main_absent m v (not_front is_main v refl (λ t r e i. longest t r e (at_main (t ∷ []) (i, tt))))
lacks_main n m le which p v (no_inputs a b w i c r row xs ic none) longest =
    main_up_to m n le a b w i c r row xs ic ∙ ap (λ q. sides q i.outputs i.sections (c ∷ r) r) none ∙ ap (λ q. Err (q, c ∷ r)) (at_close part.Inputs c r ic)
lacks_main n m le which p v (no_outputs a b w i c r row xs ic some none) longest =
    main_up_to m n le a b w i c r row xs ic ∙ ap (λ q. sides q i.outputs i.sections (c ∷ r) r) some ∙ ap (λ q. sides true q i.sections (c ∷ r) r) none ∙ ap (λ q. Err (q, c ∷ r)) (at_close part.Outputs c r ic)

lacks_read : (n m : ℕ) → n ≤ m → (which : Part) (p v : List Lexeme) → Lacks n which p v → ((t : Lexeme) (r : List Lexeme) → v ≡ t ∷ r → Begins (p ++ t ∷ []) → ⊥) → read_text m (p ++ v) ≡ Err (missing which v, v)
lacks_read n m le which p v (in_first which' p' v' lack) longest =
    heading_fails m (p ++ v) (missing which v, v) (lacks_heading m which p v lack (λ t r e b. longest t r e (n, in_heading (p ++ t ∷ []) b)))
lacks_read n m le which p v (in_later which' u h q v' head lack) longest =
    ap (read_text m) (append_assoc u q v)
    ∙ main_fails m u h (q ++ v) (missing which v, v) head
    (lacks_main n m le which q v lack (λ t r e b. longest t r e (n, subst (BeginsText n) (sym (append_assoc u q (t ∷ []))) (behind_heading u (q ++ t ∷ []) h head b))))

module _ (w : List Lexeme) (f : TextFault) (v : List Lexeme) (is : read_text 256 w ≡ Err (f, v)) (shallow : Shallow f) where
  -- no token may stand behind those before the stop
  abbrev front_tokens : List Lexeme
  front_tokens = before w f v is

  none_next : (p : List Lexeme) → p ≡ front_tokens → (t : Lexeme) (r : List Lexeme) → v ≡ t ∷ r → Begins (p ++ t ∷ []) → ⊥
  none_next p e t r ev b = no_list t (longest w f v is shallow (t ∷ []) r ev (subst (λ z. Begins (z ++ t ∷ [])) e b)) where
    no_list : (t : Lexeme) → t ∷ [] ≡ [] → ⊥
    no_list t e = absurd (omega (arith, ap length e))

  -- where a part is missing, that is the fault
  lack_fault : (which : Part) → LacksPart front_tokens v which → f ≡ missing which v
  lack_fault which (n, lack) =
      let read : read_text (n + 256) (front_tokens ++ v) ≡ Err (missing which v, v) = lacks_read n (n + 256) (omega arith) which front_tokens v lack (none_next front_tokens refl) in
      let stops : read_text (n + 256) (front_tokens ++ v) ≡ Err (f, v) = again_deeper w f v is n shallow v (alike-self v) in
      ap (λ r. (halt_of r).0) (sym stops ∙ read)

  lack_plain : (which : Part) → is_full (front v) ≡ false → LacksPart front_tokens v which → f ≡ MissingPart which
  lack_plain which plain lack = lack_fault which lack ∙ missing_other which (front v) plain

  kind_full : is_full (front v) ≡ true → f ≡ FullFormat → IsKind front_tokens v f
  kind_full full e = subst (IsKind front_tokens v) (sym e) (of_full full)

  no_lack_expected : is_full (front v) ≡ false → f ≡ Expected → (which : Part) → LacksPart front_tokens v which → ⊥
  no_lack_expected plain e which lack = clash which (sym e ∙ lack_plain which plain lack) where
    clash : (which : Part) → Expected ≡ MissingPart which → ⊥
    clash which e = cc

  no_lack_parens : is_full (front v) ≡ false → f ≡ NeedsParens → (which : Part) → LacksPart front_tokens v which → ⊥
  no_lack_parens plain e which lack = clash which (sym e ∙ lack_plain which plain lack) where
    clash : (which : Part) → NeedsParens ≡ MissingPart which → ⊥
    clash which e = cc

  -- the fault as the relation has it
  kind_of_expected : (b : Bool) → is_full (front v) ≡ b → f ≡ expected v → ends_operand front_tokens ≡ false → IsKind front_tokens v f
  kind_of_expected true full e quiet = kind_full full (e ∙ expected_full (front v) full)
  kind_of_expected false plain e quiet =
      let fault = e ∙ expected_other (front v) plain in
      subst (IsKind front_tokens v) (sym fault)
      (of_other plain (no_lack_expected plain fault) (λ ends op. clash (sym (operand_ends front_tokens ends) ∙ quiet))) where
        clash : true ≡ false → ⊥
        clash e = cc

  kind_of_misplaced : (b c : Bool) → is_full (front v) ≡ b → is_operator (front v) ≡ c → f ≡ misplaced v → EndsOperand front_tokens → IsKind front_tokens v f
  kind_of_misplaced true c full op e ends = kind_full full (e ∙ misplaced_full (front v) full)
  kind_of_misplaced false true plain op e ends =
      let fault = e ∙ misplaced_operator (front v) op in
      subst (IsKind front_tokens v) (sym fault) (of_operator plain (no_lack_parens plain fault) ends op)
  kind_of_misplaced false false plain op e ends =
      let fault = e ∙ misplaced_other (front v) plain op in
      subst (IsKind front_tokens v) (sym fault) (of_other plain (no_lack_expected plain fault) (λ ends' op'. clash (sym op' ∙ op))) where
        clash : true ≡ false → ⊥
        clash e = cc

  kind_of_missing : (b : Bool) (which : Part) → is_full (front v) ≡ b → f ≡ missing which v → LacksPart front_tokens v which → IsKind front_tokens v f
  kind_of_missing true which full e lack = kind_full full (e ∙ missing_full which (front v) full)
  kind_of_missing false which plain e lack = subst (IsKind front_tokens v) (sym (e ∙ missing_other which (front v) plain)) (of_missing which plain lack)

  kind_found : TextStop 256 front_tokens f v → IsKind front_tokens v f
  kind_found (not_expected b fault quiet) = kind_of_expected (is_full (front v)) refl fault quiet
  kind_found (not_parenthesized b fault (q, u, g, e, x, open_)) = kind_of_misplaced (is_full (front v)) (is_operator (front v)) refl refl fault (256, q, u, g, e, x, λ o h. (257, open_ o h))
  kind_found (at_depth t rest b fault ev more) = absurd (shallow fault)
  kind_found (lacking which b fault lack) = kind_of_missing (is_full (front v)) which refl fault (256, lack)

  kind_full_same : is_full (front v) ≡ true → TextStop 256 front_tokens f v → f ≡ FullFormat
  kind_full_same full (not_expected b fault quiet) = fault ∙ expected_full (front v) full
  kind_full_same full (not_parenthesized b fault operand) = fault ∙ misplaced_full (front v) full
  kind_full_same full (at_depth t rest b fault ev more) = absurd (shallow fault)
  kind_full_same full (lacking which b fault lack) = fault ∙ missing_full which (front v) full

  kind_operator_same : is_operator (front v) ≡ true → ((which : Part) → LacksPart front_tokens v which → ⊥) → EndsOperand front_tokens → TextStop 256 front_tokens f v → f ≡ NeedsParens
  kind_operator_same op none ends (not_expected b fault quiet) = absurd (clash (sym (operand_ends front_tokens ends) ∙ quiet)) where
    clash : true ≡ false → ⊥
    clash e = cc
  kind_operator_same op none ends (not_parenthesized b fault operand) = fault ∙ misplaced_operator (front v) op
  kind_operator_same op none ends (at_depth t rest b fault ev more) = absurd (shallow fault)
  kind_operator_same op none ends (lacking which b fault lack) = absurd (none which (256, lack))

  misplaced_same : (c : Bool) → is_operator (front v) ≡ c → is_full (front v) ≡ false → (is_operator (front v) ≡ true → ⊥) → misplaced v ≡ Expected
  misplaced_same true op plain never = absurd (never op)
  misplaced_same false op plain never = misplaced_other (front v) plain op

  kind_other_same : is_full (front v) ≡ false → ((which : Part) → LacksPart front_tokens v which → ⊥) → (EndsOperand front_tokens → is_operator (front v) ≡ true → ⊥) → TextStop 256 front_tokens f v → f ≡ Expected
  kind_other_same plain none never (not_expected b fault quiet) = fault ∙ expected_other (front v) plain
  kind_other_same plain none never (not_parenthesized b fault (q, u, g, e, x, open_)) =
      fault ∙ misplaced_same (is_operator (front v)) refl plain (never (256, q, u, g, e, x, λ o h. (257, open_ o h)))
  kind_other_same plain none never (at_depth t rest b fault ev more) = absurd (shallow fault)
  kind_other_same plain none never (lacking which b fault lack) = absurd (none which (256, lack))

  -- the relation determines the kind
  kind_same : (g : TextFault) → IsKind front_tokens v g → TextStop 256 front_tokens f v → f ≡ g
  kind_same g (of_full full) stop = kind_full_same full stop
  kind_same g (of_missing which plain lack) stop = lack_plain which plain lack
  kind_same g (of_operator plain none ends op) stop = kind_operator_same op none ends stop
  kind_same g (of_other plain none never) stop = kind_other_same plain none never stop

stop_begins : {n : ℕ} {p : List Lexeme} {f : TextFault} {v : List Lexeme} → TextStop n p f v → BeginsText n p
stop_begins (not_expected b fault quiet) = b
stop_begins (not_parenthesized b fault operand) = b
stop_begins (at_depth t rest b fault ev more) = b
stop_begins (lacking which b fault lack) = b

-- either it is the nesting, or another fault
data Depth (p : List Lexeme) (f : TextFault) (v : List Lexeme) : Type 0 where
  too_deep : (t : Lexeme) (rest : List Lexeme) → f ≡ TooDeep → v ≡ t ∷ rest → Begins (p ++ t ∷ []) → Depth p f v
  no_deeper : Shallow f → Depth p f v

depth_of : (p : List Lexeme) (f : TextFault) (v : List Lexeme) → TextStop 256 p f v → Depth p f v
depth_of p f v (not_expected b fault quiet) = no_deeper (λ e. expected_shallow (front v) (sym fault ∙ e))
depth_of p f v (not_parenthesized b fault operand) = no_deeper (λ e. misplaced_shallow (front v) (sym fault ∙ e))
depth_of p f v (at_depth t rest b fault ev more) = too_deep t rest fault ev (257, more)
depth_of p f v (lacking which b fault lack) = no_deeper (λ e. missing_shallow which (front v) (sym fault ∙ e))

not_nil : (t : Lexeme) (w : List Lexeme) → t ∷ w ≡ [] → ⊥
not_nil t w e = absurd (omega (arith, ap length e))

-- each text that is read is one of the grammar
pub found_text : (w : List Lexeme) (x : Text) → read_text 256 w ≡ Ok x → IsText 256 w x
found_text w x is = subst (Outcome Any 256 256 (omega arith) (λ h. refl) w) is (outcome Any 256 256 (omega arith) (λ h. refl) w)

-- and each one of the grammar is read
pub only_text : (w : List Lexeme) (x : Text) → IsText 256 w x → read_text 256 w ≡ Ok x
only_text w x text = text_read 256 256 w x text (omega arith)

-- a fault stands where the relation has it
pub found_fault : (w : List Lexeme) (f : TextFault) (v : List Lexeme) → read_text 256 w ≡ Err (f, v) → IsGrammarFault w f v
found_fault w f v is = go (depth_of p f v stop) where
  p : List Lexeme
  p = before w f v is

  stop : TextStop 256 p f v
  stop = stopped w f v is

  go : Depth p f v → IsGrammarFault w f v
  go (too_deep t rest fault ev more) =
      subst (λ z. IsGrammarFault z f v) (sym (split_at w f v is))
      (subst (λ z. IsGrammarFault (p ++ z) f z) (sym ev) (subst (λ z. IsGrammarFault (p ++ t ∷ rest) z (t ∷ rest)) (sym fault)
      (deep_token p t rest (stop_begins stop, λ q r e b. longest_within w f v is q r (ev ∙ e) b) more)))
  go (no_deeper sh) =
      subst (λ z. IsGrammarFault z f v) (sym (split_at w f v is))
      (bad_token p v f (stop_begins stop) ((256, stop_begins stop), λ q r e b. longest w f v is sh q r e b) (subst IsNoText (split_at w f v is) (no_text w f v is sh)) (kind_found w f v is sh stop))

text_begins : (n : ℕ) (w : List Lexeme) (x : Text) → IsText n w x → BeginsText n w
text_begins n w x (is_whole_text u v h all head main) = behind_heading u v h head (whole_main v all main)

-- the same tokens before, and the same behind
abbrev SamePlace : List Lexeme → List Lexeme → List Lexeme → List Lexeme → Type 0
SamePlace p v q r = (p ≡ q) × (v ≡ r)

same_place : (p v q r : List Lexeme) → ((x : List Lexeme) → q ≡ p ++ x → v ≡ x ++ r → x ≡ []) → ((x : List Lexeme) → p ≡ q ++ x → r ≡ x ++ v → x ≡ []) → Compared p v q r → SamePlace p v q r
same_place p v q r one two (no_shorter x e k) =
    let none = one x e k in (sym (e ∙ ap (λ z. p ++ z) none ∙ append-nil p), k ∙ ap (λ z. z ++ r) none)
same_place p v q r one two (no_longer x e k) =
    let none = two x e k in (e ∙ ap (λ z. q ++ z) none ∙ append-nil q, sym (k ∙ ap (λ z. z ++ v) none))

bad_only : (p v : List Lexeme) (f g : TextFault) (r : List Lexeme) → read_text 256 (p ++ v) ≡ Err (g, r) → IsLongest Begins p v → BeginsText 256 p → IsKind p v f → failed (g, r) ≡ failed (f, v)
bad_only p v f g r is lon b kind = go (depth_of q g r stop) where
  q : List Lexeme
  q = before (p ++ v) g r is

  stop : TextStop 256 q g r
  stop = stopped (p ++ v) g r is

  same : SamePlace p v q r
  same = same_place p v q r
      (λ x e k. lon.1 x r k (256, subst (BeginsText 256) e (stop_begins stop)))
      (λ x e k. longest_within (p ++ v) g r is x v k (subst (BeginsText 256) e b))
      (compare p v q r (split_at (p ++ v) g r is))

  go : Depth q g r → failed (g, r) ≡ failed (f, v)
  go (too_deep t rest fault ev more) =
      absurd (not_nil t [] (lon.1 (t ∷ []) rest (same.1 ∙ ev) (subst (λ z. Begins (z ++ t ∷ [])) (sym same.0) more)))
  go (no_deeper sh) =
      ap (λ z. Err (z, r)) (kind_same (p ++ v) g r is sh f (subst (λ z. IsKind z r f) same.0 (subst (λ z. IsKind p z f) same.1 kind)) stop)
      ∙ ap (λ z. Err (f, z)) (sym same.1)

deep_only : (p : List Lexeme) (t : Lexeme) (v : List Lexeme) (g : TextFault) (r : List Lexeme) → read_text 256 (p ++ t ∷ v) ≡ Err (g, r) → IsLongest (BeginsText 256) p (t ∷ v) → Begins (p ++ t ∷ []) → failed (g, r) ≡ failed (TooDeep, t ∷ v)
deep_only p t v g r is lon more = go (depth_of q g r stop) where
  q : List Lexeme
  q = before (p ++ t ∷ v) g r is

  stop : TextStop 256 q g r
  stop = stopped (p ++ t ∷ v) g r is

  same : SamePlace p (t ∷ v) q r
  same = same_place p (t ∷ v) q r
      (λ x e k. lon.1 x r k (subst (BeginsText 256) e (stop_begins stop)))
      (λ x e k. longest_within (p ++ t ∷ v) g r is x (t ∷ v) k (subst (BeginsText 256) e lon.0))
      (compare p (t ∷ v) q r (split_at (p ++ t ∷ v) g r is))

  go : Depth q g r → failed (g, r) ≡ failed (TooDeep, t ∷ v)
  go (too_deep u rest fault ev more') = ap (λ z. Err (z, r)) fault ∙ ap (λ z. Err (TooDeep, z)) (sym same.1)
  go (no_deeper sh) =
      absurd (not_nil t [] (longest (p ++ t ∷ v) g r is sh (t ∷ []) v (sym same.1) (subst (λ z. Begins (z ++ t ∷ [])) same.0 more)))

by_result : (w : List Lexeme) (f : TextFault) (v : List Lexeme) (x : Result Text Halt) → read_text 256 w ≡ x → IsGrammarFault w f v → x ≡ Err (f, v)
by_result w f v (Ok y) is (bad_token p v' f' b lon none kind) = absurd (none 256 y (found_text w y is))
by_result w f v (Ok y) is (deep_token p t v' lon more) = absurd (not_nil t v' (lon.1 (t ∷ v') [] (sym (append-nil (t ∷ v'))) (text_begins 256 w y (found_text w y is))))
by_result w f v (Err h) is (bad_token p v' f' b lon none kind) = bad_only p v f h.0 h.1 is lon b kind
by_result w f v (Err h) is (deep_token p t v' lon more) = deep_only p t v' h.0 h.1 is lon more

pub only_fault : (w : List Lexeme) (f : TextFault) (v : List Lexeme) → IsGrammarFault w f v → read_text 256 w ≡ Err (f, v)
only_fault w f v fault = by_result w f v (read_text 256 w) refl fault
