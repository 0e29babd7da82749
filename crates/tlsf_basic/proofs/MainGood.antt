-- What reading the second part gives is one, and where it stops the tokens before begin one.
use Rattle.std.proofs.Common.{◌≡◌, ℕ, ◌<◌, ◌≤◌, Bool, true, false, not, cond, List, [], ◌∷◌, ◌++◌, length, drop, Ok, Err, sym, refl, ap, ◌∙◌, subst, arith, append_assoc, append-nil, length-append}
use Rattle.ltl_form.specs.declared.formulas.Ltl.{Ltl}
use Rattle.tlsf_basic.specs.declared.faults.Part.{Part}
use Rattle.tlsf_basic.specs.declared.faults.Part.TheVariants as part
use Rattle.tlsf_basic.specs.declared.faults.TextFault.{TextFault}
use Rattle.tlsf_basic.specs.declared.faults.TextFault.TheVariants.{TooDeep, MissingPart}
use Rattle.tlsf_basic.specs.declared.symbols.Section.{Section}
use Rattle.tlsf_basic.specs.declared.symbols.Symbol.{Symbol}
use Rattle.tlsf_basic.specs.declared.symbols.Symbol.TheVariants as s
use Rattle.tlsf_basic.specs.declared.symbols.Lexeme.{Lexeme}
use Rattle.tlsf_basic.specs.declared.mains.Sections.{Sections}
use Rattle.tlsf_basic.specs.declared.mains.Parts.{Parts}
use Rattle.tlsf_basic.specs.Reads.{Halt, Read, Past, ◌>>=◌, front, expected_by, expected, unexpected, misplaced_by, missing_by, passes}
use Rattle.tlsf_basic.specs.Marks.{mark, closing, part_word, in_braces, is_main, is_open_brace, is_close_brace, is_declared, is_semicolon, is_inputs, is_outputs, is_section}
use Rattle.tlsf_basic.specs.Formulas.{read_atom, read_unary, read_formula, nested}
use Rattle.tlsf_basic.specs.Mains.{name_turn, read_names, read_declared, read_entry, read_entries, read_inputs, read_outputs, read_section, part_by, read_part, read_parts, close_main, read_main}
use Rattle.tlsf_basic.specs.Values.{added, no_parts}
use Rattle.tlsf_basic.specs.Rows.{IsRow, BeginsRow}
use Rattle.tlsf_basic.specs.Grammar.{IsFormula}
use Rattle.tlsf_basic.specs.Begins.{no_mark, nothing, in_first, in_all, in_any, in_arrow, BeginsFormula}
use Rattle.tlsf_basic.specs.TextGrammar.{IsNames, no_name, name_more, IsEntries, no_entry, entry_more, IsPart, is_inputs_part, is_outputs_part, is_section_part, IsParts, no_part, part_more, IsMain, is_whole_main}
use Rattle.tlsf_basic.specs.TextBegins.{BeginsNames, in_names, BeginsEntry, in_formula, at_semicolon, BeginsPart, no_part_yet, at_inputs, in_inputs, at_outputs, in_outputs, at_section, in_section, BeginsParts, in_parts, BeginsMain, at_main, in_main}
use Rattle.tlsf_basic.specs.TextFaults.{LacksInMain, no_main, no_inputs, no_outputs}
use Rattle.tlsf_basic.proofs.Good.{Texts, Stops, By, Passed, valued, Alike, Good, weaker, behind_token, then, past-then, past-past, past_value, once_each, at_unexpected, choose, IsOne, StopsAt, at_token}
use Rattle.tlsf_basic.proofs.Loops.{run, loop, bind_assoc, halt_of, by_valued, passes_run, from_valued}
use Rattle.tlsf_basic.proofs.Lift.{lift_formula}
use Rattle.tlsf_basic.proofs.Stopping.{ends-append, ends-last, Operand, Lacks, no_lack, Stop, not_expected, not_parenthesized, lacking, Carried, stop_behind, stop_within}
use Rattle.tlsf_basic.proofs.FormulaOperand.{formula_operand}
use Rattle.tlsf_basic.proofs.FormulaGood.{StopOf, at_formula_of}
use Rattle.tlsf_basic.proofs.RowFacts.{Classes, main_class, open_brace_class, close_brace_class, declared_class, semicolon_class, inputs_class, outputs_class, section_class, row_quiet, begins_row_quiet, RowStop, at_mark, at_pair}
use Rattle.tlsf_basic.proofs.HeadingGood.{Quiet, HeadText, HeadStop, at_word, at_brace, at_head, close_is}

abbrev NamesRow : List (Symbol → Bool)
NamesRow = is_declared ∷ is_semicolon ∷ []

names_classes : Classes (is_declared ∷ is_semicolon ∷ [])
names_classes = (declared_class, (semicolon_class, tt))

names_quiet : (w : List Lexeme) → IsNames w → Quiet w
names_quiet w no_name = refl
names_quiet w (name_more t c v row more) = ends-append (t ∷ c ∷ []) v (row_quiet NamesRow names_classes (t ∷ c ∷ []) row) (names_quiet v more)

pub row_two : (x y : Symbol → Bool) (u : List Lexeme) → IsRow (x ∷ y ∷ []) u → (a : Lexeme) × (b : Lexeme) × (u ≡ a ∷ b ∷ []) × IsRow (x ∷ y ∷ []) (a ∷ b ∷ [])
row_two x y [] h = absurd h
row_two x y (a ∷ []) h = absurd h.1
row_two x y (a ∷ b ∷ []) h = (a, b, refl, h)
row_two x y (a ∷ b ∷ c ∷ w) h = absurd h.1.1

-- names and the closing brace
abbrev NamesText : Unit {0} → Texts (Unit {0})
NamesText a u b = (w : List Lexeme) × (c : Lexeme) × (u ≡ w ++ c ∷ []) × IsNames w × (is_close_brace c.symbol ≡ true)

abbrev NamesStop : Unit {0} → Stops
NamesStop a p f v = BeginsNames p × (f ≡ expected v) × Quiet p

names_begun : (p : List Lexeme) → BeginsRow (is_declared ∷ is_semicolon ∷ []) p → BeginsNames p
names_begun p row = in_names [] p no_name row

module _ (Fits : TextFault → Type 0) where
  name_good : (a : Unit {0}) (w : List Lexeme) → in_braces (front w) ≡ true → Good Fits (λ u b. IsRow NamesRow u) (RowStop NamesRow) (By (λ x. valued (name_turn x))) w (valued (name_turn w))
  name_good a w go =
      weaker Fits (λ u b. IsRow NamesRow u) (λ u b. IsRow NamesRow u) (RowStop NamesRow) (RowStop NamesRow) (Passed name_turn) (By (λ x. valued (name_turn x))) w (valued (name_turn w))
      (λ u b h. h) (λ p f v h. h) (λ x q h. by_valued (name_turn x) q h) (at_pair Fits is_declared is_semicolon declared_class semicolon_class w)

  -- the closing brace
  brace_closed : (w : List Lexeme) → in_braces (front w) ≡ false → Good Fits (IsOne is_close_brace) (StopsAt is_close_brace expected_by) (Passed (mark is_close_brace)) w (valued (mark is_close_brace w))
  brace_closed w e = at_mark Fits is_close_brace close_brace_class w

  names_closed : (a : Unit {0}) (w : List Lexeme) → in_braces (front w) ≡ false → Good Fits (NamesText a) (NamesStop a) (By (λ x. valued (mark is_close_brace x))) w (valued (mark is_close_brace w))
  names_closed a w e =
      weaker Fits (IsOne is_close_brace) (NamesText a) (StopsAt is_close_brace expected_by) (NamesStop a) (Passed (mark is_close_brace)) (By (λ x. valued (mark is_close_brace x))) w (valued (mark is_close_brace w))
      (λ u b h. ([], h.0, h.1, no_name, h.2)) (λ p f v h. (subst BeginsNames (sym h.0) (names_begun [] tt), h.1, subst Quiet (sym h.0) refl)) (λ x q h. by_valued (mark is_close_brace x) q h) (brace_closed w e)

  names_more_text : (a : Unit {0}) (u : List Lexeme) (b : Unit {0}) (v : List Lexeme) (c : Unit {0}) → IsRow NamesRow u → NamesText b v c → NamesText a (u ++ v) c
  names_more_text a u b v d row (w, c, e, xs, ic) =
      let (t, x, eu, both) = row_two is_declared is_semicolon u row in
      (t ∷ x ∷ w, c, ap (λ z. z ++ v) eu ∙ ap (λ z. t ∷ x ∷ z) e, name_more t x w both xs, ic)

  names_more_stop : (a : Unit {0}) (u : List Lexeme) (b : Unit {0}) (p : List Lexeme) (f : TextFault) (v : List Lexeme) → IsRow NamesRow u → NamesStop b p f v → NamesStop a (u ++ p) f v
  names_more_stop a u b p f v row (begun, fault, quiet) =
      let (t, x, eu, both) = row_two is_declared is_semicolon u row in
      (subst (λ z. BeginsNames (z ++ p)) (sym eu) (more t x both p begun), fault, ends-append u p (row_quiet NamesRow names_classes u row) quiet)
    where
      more : (t x : Lexeme) → IsRow NamesRow (t ∷ x ∷ []) → (p : List Lexeme) → BeginsNames p → BeginsNames (t ∷ x ∷ p)
      more t x both p (in_names w q xs begun) = in_names (t ∷ x ∷ w) q (name_more t x w both xs) begun

  names_stuck : (a : Unit {0}) → in_braces s.End ≡ true → (e : Halt) × (valued (name_turn []) ≡ Err e) × (valued (mark is_close_brace []) ≡ Err e)
  unfolding mark
  names_stuck a go = ((expected [], []), refl, refl)

  names_stuck' : (a : Unit {0}) → in_braces s.End ≡ true → (h : Halt) → valued (name_turn []) ≡ Err h → valued (mark is_close_brace []) ≡ Err h
  unfolding mark
  names_stuck' a go h e = e

  abbrev names_read : List Lexeme → Past
  names_read x = passes in_braces name_turn (length x) x >>= mark is_close_brace

  at_names : (w : List Lexeme) → Good Fits (NamesText tt) (NamesStop tt) (Passed names_read) w (valued (names_read w))
  at_names w =
      subst (Good Fits (NamesText tt) (NamesStop tt) (Passed names_read) w) (sym (passes_run in_braces name_turn (mark is_close_brace) (length w) w))
      (weaker Fits (NamesText tt) (NamesText tt) (NamesStop tt) (NamesStop tt) (λ x q. (k : ℕ) → length x ≤ k → run in_braces (λ a x. valued (name_turn x)) (λ a x. valued (mark is_close_brace x)) k tt x ≡ q) (Passed names_read) w
      (run in_braces (λ a x. valued (name_turn x)) (λ a x. valued (mark is_close_brace x)) (length w) tt w)
      (λ u a h. h) (λ p f v h. h) (λ x q h. from_valued (names_read x) q (passes_run in_braces name_turn (mark is_close_brace) (length x) x ∙ h (length x) (omega arith)))
      (loop Fits in_braces (λ a x. valued (name_turn x)) (λ a x. valued (name_turn x)) (λ a x. valued (mark is_close_brace x)) (λ a x. valued (mark is_close_brace x)) (λ a u b. IsRow NamesRow u) (λ a. RowStop NamesRow) NamesText NamesStop
      name_good names_closed (λ a p f v h. (names_begun p h.0, h.1, begins_row_quiet NamesRow names_classes p h.0)) names_more_text names_more_stop
      (λ a u b row. let (t, x, eu, both) = row_two is_declared is_semicolon u row in subst (λ q. 0 < length q) (sym eu) (omega arith))
      names_stuck names_stuck' (length w) tt w (omega arith)))

  -- `{`, names and `}`
  abbrev DeclaredText : Texts (Unit {0})
  DeclaredText u x = (b : Lexeme) × (c : Lexeme) × (w : List Lexeme) × (u ≡ b ∷ w ++ c ∷ []) × (is_open_brace b.symbol ≡ true) × IsNames w × (is_close_brace c.symbol ≡ true)

  abbrev DeclaredBegins : List Lexeme → Type 0
  DeclaredBegins p = (q : List Lexeme) → (b : Lexeme) × (w : List Lexeme) × (p ≡ b ∷ w) × (is_open_brace b.symbol ≡ true) × BeginsNames w

  -- either the brace isn't there, or the names are begun
  data DeclaredStop (p : List Lexeme) (f : TextFault) (v : List Lexeme) : Type 0 where
    at_open : p ≡ [] → f ≡ expected v → DeclaredStop p f v
    among_names : (b : Lexeme) (w : List Lexeme) → p ≡ b ∷ w → is_open_brace b.symbol ≡ true → BeginsNames w → f ≡ expected v → Quiet w → DeclaredStop p f v

  declared_same : (x : List Lexeme) → read_declared x ≡ (mark is_open_brace x >>= names_read)
  unfolding read_declared read_names
  declared_same x = bind_assoc (mark is_open_brace x) read_names (mark is_close_brace)

  at_declared : (w : List Lexeme) → Good Fits DeclaredText DeclaredStop (Passed read_declared) w (valued (read_declared w))
  at_declared w =
      subst (Good Fits DeclaredText DeclaredStop (Passed read_declared) w) (ap valued (sym (declared_same w)))
      (weaker Fits DeclaredText DeclaredText DeclaredStop DeclaredStop (Passed (λ x. mark is_open_brace x >>= names_read)) (Passed read_declared) w (valued (mark is_open_brace w >>= names_read))
      (λ u a h. h) (λ p f v h. h) (λ x q h. declared_same x ∙ h)
      (past-past Fits (IsOne is_open_brace) (StopsAt is_open_brace expected_by) (mark is_open_brace) names_read DeclaredText DeclaredStop w (mark is_open_brace w) names_read
      (at_mark Fits is_open_brace open_brace_class w) (λ p f v h. at_open h.0 h.1)
      (λ u v e h. weaker Fits (NamesText tt) (λ x a. DeclaredText (u ++ x) a) (NamesStop tt) (λ p f z. DeclaredStop (u ++ p) f z) (Passed names_read) (Passed names_read) v (valued (names_read v))
      (λ x a m. (h.0, m.1, m.0, ap (λ q. q ++ x) h.1 ∙ ap (λ q. h.0 ∷ q) m.2, h.2, m.3, m.4))
      (λ p f z m. among_names h.0 p (ap (λ q. q ++ p) h.1) h.2 m.0 m.1 m.2) (λ x q o. o) (at_names v))))

-- texts with more levels

pub lift_entries : {n : ℕ} {kind : Section} {all : Sections} {w : List Lexeme} {after : Sections} → IsEntries n kind all w after → (m : ℕ) → n ≤ m → IsEntries m kind all w after
lift_entries (no_entry all) m le = no_entry all
lift_entries (entry_more all f w c v after x is xs) m le = entry_more all f w c v after (lift_formula x m le) is (lift_entries xs m le)

pub lift_part : {n : ℕ} {i : Parts} {w : List Lexeme} {j : Parts} → IsPart n i w j → (m : ℕ) → n ≤ m → IsPart m i w j
lift_part (is_inputs_part i a b c w e row xs ic) m le = is_inputs_part i a b c w e row xs ic
lift_part (is_outputs_part i a b c w e row xs ic) m le = is_outputs_part i a b c w e row xs ic
lift_part (is_section_part i kind a b c w after is ib xs ic) m le = is_section_part i kind a b c w after is ib (lift_entries xs m le) ic

abbrev EntryText : ℕ → Section → Sections → Texts Sections
EntryText n kind all u after = (f : Ltl) × (w : List Lexeme) × (c : Lexeme) × (u ≡ w ++ c ∷ []) × IsFormula n w f × (is_semicolon c.symbol ≡ true) × (after ≡ added kind f all)

abbrev EntriesBegin : Section → Sections → ℕ → List Lexeme → Type 0
EntriesBegin kind all m p = (w : List Lexeme) × (v : List Lexeme) × (after : Sections) × (p ≡ w ++ v) × IsEntries m kind all w after × BeginsEntry m v

abbrev SectionText : ℕ → Section → Parts → Sections → Texts Parts
SectionText n kind i all u b = (w : List Lexeme) × (c : Lexeme) × (after : Sections) × (u ≡ w ++ c ∷ []) × IsEntries n kind all w after × (is_close_brace c.symbol ≡ true) × (b ≡ record i { sections = after })

abbrev pub PartText : ℕ → Parts → Texts Parts
PartText n i u j = IsPart n i u j × Quiet u

abbrev pub PartStop : ℕ → Parts → Stops
PartStop n i = Stop no_lack (λ m. BeginsPart m i) n

entry_operand : (n : ℕ) (f : Ltl) (u : List Lexeme) → IsFormula n u f → Operand BeginsEntry n (u ++ [])
entry_operand n f u text =
    let (q, x, g, e, y, open_) = formula_operand text in
    (q, x, g, append-nil u ∙ e, y, λ o h. in_formula (q ++ o ∷ []) (open_ o h))

entry_quiet : (u w : List Lexeme) (c : Lexeme) → u ≡ w ++ c ∷ [] → is_semicolon c.symbol ≡ true → Quiet u
entry_quiet u w c e is = subst Quiet (sym e) (ends-last w c [] ∙ semicolon_class.quiet c.symbol is)

pub closed_quiet : (w : List Lexeme) (c : Lexeme) → is_close_brace c.symbol ≡ true → Quiet (w ++ c ∷ [])
closed_quiet w c is = ends-last w c [] ∙ close_brace_class.quiet c.symbol is

part_quiet : {n : ℕ} {i : Parts} {w : List Lexeme} {j : Parts} → IsPart n i w j → Quiet w
part_quiet (is_inputs_part i a b c w e row xs ic) = closed_quiet (a ∷ b ∷ w) c ic
part_quiet (is_outputs_part i a b c w e row xs ic) = closed_quiet (a ∷ b ∷ w) c ic
part_quiet (is_section_part i kind a b c w after is ib xs ic) = closed_quiet (a ∷ b ∷ w) c ic

pub part_some : {n : ℕ} {i : Parts} {w : List Lexeme} {j : Parts} → IsPart n i w j → 0 < length w
part_some (is_inputs_part i a b c w e row xs ic) = omega arith
part_some (is_outputs_part i a b c w e row xs ic) = omega arith
part_some (is_section_part i kind a b c w after is ib xs ic) = omega arith

abbrev pub MissingSide : Part → Parts → Type 0
MissingSide part.Inputs j = j.inputs ≡ false
MissingSide part.Outputs j = (j.inputs ≡ true) × (j.outputs ≡ false)
MissingSide _ j = ⊥

abbrev PartsLack : ℕ → Parts → Lacks
PartsLack n i part p v = (j : Parts) × (c : Lexeme) × (r : List Lexeme) × IsParts n i p j × (v ≡ c ∷ r) × (is_close_brace c.symbol ≡ true) × MissingSide part j

abbrev PartsText : ℕ → Parts → Texts Sections
PartsText n i u all = (w : List Lexeme) × (c : Lexeme) × (j : Parts) × (u ≡ w ++ c ∷ []) × IsParts n i w j × (j.inputs ≡ true) × (j.outputs ≡ true) × (all ≡ j.sections) × (is_close_brace c.symbol ≡ true)

abbrev PartsStop : ℕ → Parts → Stops
PartsStop n i = Stop (PartsLack n i) (λ m. BeginsParts m i) n

parts_carried : (n : ℕ) (i j : Parts) (u : List Lexeme) → IsPart n i u j → Carried (λ m. BeginsParts m j) (λ m. BeginsParts m i) n u
parts_carried n i j u x m r le (in_parts j' k w v xs b) = subst (BeginsParts m i) (append_assoc u w v) (in_parts i k (u ++ w) v (part_more i j' k u w (lift_part x m le) xs) b)

pub section_is : (y : Symbol) → is_section y ≡ true → (kind : Section) × (y ≡ s.Section kind)
section_is (s.Section kind) e = (kind, refl)
section_is y e = cc

pub closes_main : (i : Parts) (c : Lexeme) (us : List Lexeme) → c.symbol ≡ s.CloseBrace → close_main i (c ∷ us) ≡ cond (not i.inputs) (Err (MissingPart part.Inputs, c ∷ us)) (cond (not i.outputs) (Err (MissingPart part.Outputs, c ∷ us)) (Ok (i.sections, us)))
unfolding close_main
closes_main i c us is = ap (λ y. cond (in_braces y) (unexpected (c ∷ us)) (cond (not i.inputs) (Err (MissingPart part.Inputs, c ∷ us)) (cond (not i.outputs) (Err (MissingPart part.Outputs, c ∷ us)) (Ok (i.sections, us))))) is

abbrev pub sides : Bool → Bool → Sections → List Lexeme → List Lexeme → Read Sections
sides a b all w us = cond (not a) (Err (MissingPart part.Inputs, w)) (cond (not b) (Err (MissingPart part.Outputs, w)) (Ok (all, us)))

main_alike : (i : Parts) (a b : Bool) (c : Lexeme) (ts v : List Lexeme) → c.symbol ≡ s.CloseBrace → i.inputs ≡ a → i.outputs ≡ b → (f : TextFault) → ((x us : List Lexeme) → sides a b i.sections x us ≡ Err (f, x)) → Alike (c ∷ ts) v → close_main i v ≡ Err (f, v)
main_alike i a b c ts [] is ea eb f fails al = absurd al
main_alike i a b c ts (u ∷ us) is ea eb f fails al =
    closes_main i u us (ap (λ x. x.symbol) (sym al) ∙ is) ∙ ap (λ z. sides z i.outputs i.sections (u ∷ us) us) ea ∙ ap (λ z. sides a z i.sections (u ∷ us) us) eb ∙ fails (u ∷ us) us

module _ (Fits : TextFault → Type 0) (n m : ℕ) (le : n ≤ m) (fits : Fits TooDeep → n ≡ m) where
  entry_end : (kind : Section) (all : Sections) (u : List Lexeme) (a : Ltl) (v : List Lexeme) → IsFormula n u a → Good Fits (λ x b. EntryText n kind all (u ++ x) b) (λ p f z. StopOf BeginsEntry n (u ++ p) f z) (By (λ y. closing is_semicolon y >>= λ x. Ok (added kind a all, x))) v (closing is_semicolon v >>= λ x. Ok (added kind a all, x))
  unfolding closing
  entry_end kind all u a v text =
      past_value Fits (IsOne is_semicolon) (λ x b. EntryText n kind all (u ++ x) b) (StopsAt is_semicolon misplaced_by) (λ p f z. StopOf BeginsEntry n (u ++ p) f z) (closing is_semicolon) (added kind a all) v (closing is_semicolon v)
      (λ x h. (a, u, h.0, ap (λ q. u ++ q) h.1, text, h.2, refl))
      (λ p f z h. subst (λ q. StopOf BeginsEntry n (u ++ q) f z) (sym h.0) (not_parenthesized (at_semicolon a u [] text no_mark) h.1 (entry_operand n a u text)))
      (at_token Fits is_semicolon misplaced_by refl v)

  at_entry : (kind : Section) (all : Sections) (w : List Lexeme) → Good Fits (EntryText n kind all) (StopOf BeginsEntry n) (By (read_entry m kind all)) w (read_entry n kind all w)
  unfolding read_entry
  at_entry kind all w =
      then Fits (IsFormula n) (StopOf BeginsFormula n) (read_formula (nested m)) (λ r. closing is_semicolon r.1 >>= λ v. Ok (added kind r.0 all, v)) (EntryText n kind all) (StopOf BeginsEntry n) w (read_formula (nested n) w) (λ r. closing is_semicolon r.1 >>= λ v. Ok (added kind r.0 all, v))
      (at_formula_of Fits n m le fits w) (λ p f v h. stop_within no_lack BeginsFormula BeginsEntry n p f v (λ k r. in_formula r) h)
      (λ u a v e text. entry_end kind all u a v text)

  abbrev close_section : Parts → Sections → List Lexeme → Read Parts
  close_section i after x = mark is_close_brace x >>= λ u. Ok (record i { sections = after }, u)

  module _ (kind : Section) (i : Parts) where
    abbrev EntriesStop : Sections → Stops
    EntriesStop all = StopOf (EntriesBegin kind all) n

    entries_begun : (all : Sections) (k : ℕ) (r : List Lexeme) → BeginsEntry k r → EntriesBegin kind all k r
    entries_begun all k r b = ([], r, all, refl, no_entry all, b)

    entry_nothing : BeginsEntry n []
    entry_nothing = in_formula [] (in_arrow (in_any (in_all (in_first nothing))))

    section_closed : (all : Sections) (w : List Lexeme) → in_braces (front w) ≡ false → Good Fits (SectionText n kind i all) (EntriesStop all) (By (close_section i all)) w (close_section i all w)
    section_closed all w e =
        past_value Fits (IsOne is_close_brace) (SectionText n kind i all) (StopsAt is_close_brace expected_by) (EntriesStop all) (mark is_close_brace) (record i { sections = all }) w (mark is_close_brace w)
        (λ u h. ([], h.0, all, h.1, no_entry all, h.2, refl))
        (λ p f v h. subst (λ q. EntriesStop all q f v) (sym h.0) (not_expected (entries_begun all n [] entry_nothing) h.1 refl)) (at_mark Fits is_close_brace close_brace_class w)

    entries_more_text : (all : Sections) (u : List Lexeme) (next : Sections) (v : List Lexeme) (b : Parts) → EntryText n kind all u next → SectionText n kind i next v b → SectionText n kind i all (u ++ v) b
    entries_more_text all u next v b (f, w, c, eu, x, is, ea) (z, d, after, ev, xs, id, eb) = (
      w ++ c ∷ z,
      d,
      after,
      ap (λ q. q ++ v) eu ∙ ap (λ q. (w ++ c ∷ []) ++ q) ev ∙ append_assoc w (c ∷ []) (z ++ d ∷ []) ∙ sym (append_assoc w (c ∷ z) (d ∷ [])),
      entry_more all f w c z after x is (subst (λ q. IsEntries n kind q z after) ea xs),
      id,
      eb,
    )

    entries_carried : (all : Sections) (u : List Lexeme) (next : Sections) → EntryText n kind all u next → Carried (EntriesBegin kind next) (EntriesBegin kind all) n u
    entries_carried all u next (f, w, c, eu, x, is, ea) k r h (z, v, after, e, xs, b) = (
      w ++ c ∷ z,
      v,
      after,
      ap (λ q. q ++ r) eu ∙ ap (λ q. (w ++ c ∷ []) ++ q) e ∙ append_assoc w (c ∷ []) (z ++ v) ∙ sym (append_assoc w (c ∷ z) v),
      entry_more all f w c z after (lift_formula x k h) is (subst (λ q. IsEntries k kind q z after) ea xs),
      b,
    )

    entries_more_stop : (all : Sections) (u : List Lexeme) (next : Sections) (p : List Lexeme) (f : TextFault) (v : List Lexeme) → EntryText n kind all u next → EntriesStop next p f v → EntriesStop all (u ++ p) f v
    entries_more_stop all u next p f v h stop =
        stop_behind no_lack no_lack (EntriesBegin kind next) (EntriesBegin kind all) n u p f v (entries_carried all u next h) (ends-append u p (entry_quiet u h.1 h.2 h.3 h.5)) (λ part x. x) stop

    entries_some : (all : Sections) (u : List Lexeme) (next : Sections) → EntryText n kind all u next → 0 < length u
    entries_some all u next (f, w, c, eu, x, is, ea) = subst (λ q. 0 < length q) (sym eu) (omega (arith, length-append w (c ∷ [])))

    entries_stuck : (all : Sections) → in_braces s.End ≡ true → (e : Halt) × (read_entry n kind all [] ≡ Err e) × (close_section i all [] ≡ Err e)
    unfolding read_entry read_formula read_unary read_atom mark
    entries_stuck all go = ((expected [], []), refl, refl)

    entries_stuck' : (all : Sections) → in_braces s.End ≡ true → (h : Halt) → read_entry m kind all [] ≡ Err h → close_section i all [] ≡ Err h
    unfolding read_entry read_formula read_unary read_atom mark
    entries_stuck' all go h e = ap (λ r. Err (halt_of r)) e

    abbrev entries_run : ℕ → List Lexeme → Read Parts
    entries_run k w = run in_braces (read_entry k kind) (close_section i) (length w) i.sections w

    at_entries : (w : List Lexeme) → Good Fits (SectionText n kind i i.sections) (EntriesStop i.sections) (By (entries_run m)) w (entries_run n w)
    at_entries w =
        weaker Fits (SectionText n kind i i.sections) (SectionText n kind i i.sections) (EntriesStop i.sections) (EntriesStop i.sections) (λ x q. (k : ℕ) → length x ≤ k → run in_braces (read_entry m kind) (close_section i) k i.sections x ≡ q) (By (entries_run m)) w (entries_run n w)
        (λ u a h. h) (λ p f v h. h) (λ x q h. h (length x) (omega arith))
        (loop Fits in_braces (read_entry n kind) (read_entry m kind) (close_section i) (close_section i) (EntryText n kind) (λ all. StopOf BeginsEntry n) (SectionText n kind i) EntriesStop
        (λ all w go. at_entry kind all w) section_closed (λ all p f v h. stop_within no_lack BeginsEntry (EntriesBegin kind all) n p f v (entries_begun all) h)
        entries_more_text entries_more_stop entries_some entries_stuck entries_stuck' (length w) i.sections w (omega arith))

  -- parts

  at_inputs_part : (i : Parts) (w : List Lexeme) → s.Inputs ≡ front w → Good Fits (PartText n i) (PartStop n i) (By (read_inputs i)) w (read_inputs i w)
  unfolding read_inputs
  at_inputs_part i [] is = cc
  at_inputs_part i (t ∷ ts) is =
      once_each Fits (PartText n i) (PartStop n i) i.inputs (λ x. read_declared (drop 1 x) >>= λ v. Ok (record i { inputs = true }, v)) (t ∷ ts) (not_expected (no_part_yet i) refl refl)
      (λ e. behind_token Fits (λ x b. PartText n i (t ∷ x) b) (PartText n i) (λ p f z. PartStop n i (t ∷ p) f z) (PartStop n i)
      (By (λ x. read_declared x >>= λ v. Ok (record i { inputs = true }, v))) (By (λ x. read_declared (drop 1 x) >>= λ v. Ok (record i { inputs = true }, v))) t ts (read_declared ts >>= λ v. Ok (record i { inputs = true }, v))
      (λ x b h. h) (λ p f z h. h) (λ x q h. h)
      (past_value Fits (DeclaredText Fits) (λ x b. PartText n i (t ∷ x) b) (DeclaredStop Fits) (λ p f z. PartStop n i (t ∷ p) f z) read_declared (record i { inputs = true }) ts (read_declared ts)
      (λ x h. subst (λ q. PartText n i (t ∷ q) (record i { inputs = true })) (sym h.3) (is_inputs_part i t h.0 h.1 h.2 e (head, (h.4, tt)) h.5 h.6, closed_quiet (t ∷ h.0 ∷ h.2) h.1 h.6))
      (stop e) (at_declared Fits ts)))
    where
      head : is_inputs t.symbol ≡ true
      head = ap is_inputs (sym is)

      classes : Classes (is_inputs ∷ is_open_brace ∷ [])
      classes = (inputs_class, (open_brace_class, tt))

      stop : i.inputs ≡ false → (p : List Lexeme) (f : TextFault) (z : List Lexeme) → DeclaredStop Fits p f z → PartStop n i (t ∷ p) f z
      stop e p f z (at_open ep fault) = subst (λ q. PartStop n i (t ∷ q) f z) (sym ep) (not_expected (at_inputs i (t ∷ []) e (head, tt)) fault (begins_row_quiet (is_inputs ∷ is_open_brace ∷ []) classes (t ∷ []) (head, tt)))
      stop e p f z (among_names b w ep ib begun fault quiet) =
          subst (λ q. PartStop n i (t ∷ q) f z) (sym ep) (not_expected (in_inputs i t b w e (head, (ib, tt)) begun) fault (ends-append (t ∷ b ∷ []) w (row_quiet (is_inputs ∷ is_open_brace ∷ []) classes (t ∷ b ∷ []) (head, (ib, tt))) quiet))

  at_outputs_part : (i : Parts) (w : List Lexeme) → s.Outputs ≡ front w → Good Fits (PartText n i) (PartStop n i) (By (read_outputs i)) w (read_outputs i w)
  unfolding read_outputs
  at_outputs_part i [] is = cc
  at_outputs_part i (t ∷ ts) is =
      once_each Fits (PartText n i) (PartStop n i) i.outputs (λ x. read_declared (drop 1 x) >>= λ v. Ok (record i { outputs = true }, v)) (t ∷ ts) (not_expected (no_part_yet i) refl refl)
      (λ e. behind_token Fits (λ x b. PartText n i (t ∷ x) b) (PartText n i) (λ p f z. PartStop n i (t ∷ p) f z) (PartStop n i)
      (By (λ x. read_declared x >>= λ v. Ok (record i { outputs = true }, v))) (By (λ x. read_declared (drop 1 x) >>= λ v. Ok (record i { outputs = true }, v))) t ts (read_declared ts >>= λ v. Ok (record i { outputs = true }, v))
      (λ x b h. h) (λ p f z h. h) (λ x q h. h)
      (past_value Fits (DeclaredText Fits) (λ x b. PartText n i (t ∷ x) b) (DeclaredStop Fits) (λ p f z. PartStop n i (t ∷ p) f z) read_declared (record i { outputs = true }) ts (read_declared ts)
      (λ x h. subst (λ q. PartText n i (t ∷ q) (record i { outputs = true })) (sym h.3) (is_outputs_part i t h.0 h.1 h.2 e (head, (h.4, tt)) h.5 h.6, closed_quiet (t ∷ h.0 ∷ h.2) h.1 h.6))
      (stop e) (at_declared Fits ts)))
    where
      head : is_outputs t.symbol ≡ true
      head = ap is_outputs (sym is)

      classes : Classes (is_outputs ∷ is_open_brace ∷ [])
      classes = (outputs_class, (open_brace_class, tt))

      stop : i.outputs ≡ false → (p : List Lexeme) (f : TextFault) (z : List Lexeme) → DeclaredStop Fits p f z → PartStop n i (t ∷ p) f z
      stop e p f z (at_open ep fault) = subst (λ q. PartStop n i (t ∷ q) f z) (sym ep) (not_expected (at_outputs i (t ∷ []) e (head, tt)) fault (begins_row_quiet (is_outputs ∷ is_open_brace ∷ []) classes (t ∷ []) (head, tt)))
      stop e p f z (among_names b w ep ib begun fault quiet) =
          subst (λ q. PartStop n i (t ∷ q) f z) (sym ep) (not_expected (in_outputs i t b w e (head, (ib, tt)) begun) fault (ends-append (t ∷ b ∷ []) w (row_quiet (is_outputs ∷ is_open_brace ∷ []) classes (t ∷ b ∷ []) (head, (ib, tt))) quiet))

  at_section_part : (kind : Section) (i : Parts) (w : List Lexeme) → s.Section kind ≡ front w → Good Fits (PartText n i) (PartStop n i) (By (read_section m kind i)) w (read_section n kind i w)
  unfolding read_section read_entries
  at_section_part kind i [] is = cc
  at_section_part kind i (t ∷ ts) is =
      behind_token Fits (λ x b. PartText n i (t ∷ x) b) (PartText n i) (λ p f z. PartStop n i (t ∷ p) f z) (PartStop n i)
      (By (λ x. mark is_open_brace x >>= entries_run kind i m)) (By (λ x. mark is_open_brace (drop 1 x) >>= entries_run kind i m)) t ts (mark is_open_brace ts >>= entries_run kind i n)
      (λ x b h. h) (λ p f z h. h) (λ x q h. h)
      (past-then Fits (IsOne is_open_brace) (StopsAt is_open_brace expected_by) (mark is_open_brace) (entries_run kind i m) (λ x b. PartText n i (t ∷ x) b) (λ p f z. PartStop n i (t ∷ p) f z) ts (mark is_open_brace ts) (entries_run kind i n)
      (at_mark Fits is_open_brace open_brace_class ts)
      (λ p f z h. subst (λ q. PartStop n i (t ∷ q) f z) (sym h.0) (not_expected (at_section i (t ∷ []) (head, tt)) h.1 (begins_row_quiet (is_section ∷ is_open_brace ∷ []) classes (t ∷ []) (head, tt))))
      (λ u v e h. weaker Fits (SectionText n kind i i.sections) (λ x b. PartText n i (t ∷ u ++ x) b) (EntriesStop kind i i.sections) (λ p f z. PartStop n i (t ∷ u ++ p) f z) (By (entries_run kind i m)) (By (entries_run kind i m)) v (entries_run kind i n v)
      (λ x b y. text u h.0 h.1 h.2 x b y) (λ p f z st. stop u h.0 h.1 h.2 p f z st) (λ x q o. o) (at_entries kind i v)))
    where
      head : is_section t.symbol ≡ true
      head = ap is_section (sym is)

      classes : Classes (is_section ∷ is_open_brace ∷ [])
      classes = (section_class, (open_brace_class, tt))

      text : (u : List Lexeme) (b : Lexeme) → u ≡ b ∷ [] → is_open_brace b.symbol ≡ true → (x : List Lexeme) (j : Parts) → SectionText n kind i i.sections x j → PartText n i (t ∷ u ++ x) j
      text u b eu ib x j (w, c, after, ex, xs, ic, ej) =
          subst (λ q. PartText n i (t ∷ q ++ x) j) (sym eu) (subst (λ q. PartText n i (t ∷ b ∷ q) j) (sym ex) (subst (λ q. PartText n i (t ∷ b ∷ w ++ c ∷ []) q) (sym ej)
          (is_section_part i kind t b c w after (sym is) ib xs ic, closed_quiet (t ∷ b ∷ w) c ic)))

      stop : (u : List Lexeme) (b : Lexeme) → u ≡ b ∷ [] → is_open_brace b.symbol ≡ true → (p : List Lexeme) (f : TextFault) (z : List Lexeme) → EntriesStop kind i i.sections p f z → PartStop n i (t ∷ u ++ p) f z
      stop u b eu ib p f z st =
          subst (λ q. PartStop n i (t ∷ q ++ p) f z) (sym eu)
          (stop_behind no_lack no_lack (EntriesBegin kind i.sections) (λ k. BeginsPart k i) n (t ∷ b ∷ []) p f z
          (λ k r h x. subst (λ q. BeginsPart k i (t ∷ b ∷ q)) (sym x.3) (in_section i kind t b x.0 x.1 x.2 (sym is) ib x.4 x.5))
          (ends-append (t ∷ b ∷ []) p (row_quiet (is_section ∷ is_open_brace ∷ []) classes (t ∷ b ∷ []) (head, (ib, tt)))) (λ part x. x) st)

  part-go : (y : Symbol) (i : Parts) (w : List Lexeme) → y ≡ front w → Good Fits (PartText n i) (PartStop n i) (By (part_by m y i)) w (part_by n y i w)
  part-go s.Inputs i w is = at_inputs_part i w is
  part-go s.Outputs i w is = at_outputs_part i w is
  part-go (s.Section kind) i w is = at_section_part kind i w is
  part-go y i w is = at_unexpected Fits (PartText n i) (PartStop n i) w (not_expected (no_part_yet i) refl refl)

  at_one_part : (i : Parts) (w : List Lexeme) → Good Fits (PartText n i) (PartStop n i) (By (read_part m i)) w (read_part n i w)
  unfolding read_part
  at_one_part i w = choose Fits (PartText n i) (PartStop n i) (λ y. part_by m y i) (front w) w (part_by n (front w) i w) refl (part-go (front w) i w refl)

  parts_begun : (i : Parts) → BeginsParts n i []
  parts_begun i = in_parts i i [] [] (no_part i) (no_part_yet i)

  parts_closed : (i : Parts) (w : List Lexeme) → in_braces (front w) ≡ false → Good Fits (PartsText n i) (PartsStop n i) (By (close_main i)) w (close_main i w)
  parts_closed i [] e = cc
  parts_closed i (c ∷ ts) e =
      subst (Good Fits (PartsText n i) (PartsStop n i) (By (close_main i)) (c ∷ ts)) (sym (closes_main i c ts is)) (go i.inputs i.outputs refl refl) where
        is : c.symbol ≡ s.CloseBrace
        is = close_is c.symbol e

        go : (a b : Bool) → i.inputs ≡ a → i.outputs ≡ b → Good Fits (PartsText n i) (PartsStop n i) (By (close_main i)) (c ∷ ts) (sides a b i.sections (c ∷ ts) ts)
        go false b ea eb = (
          [],
          refl,
          lacking part.Inputs (parts_begun i) (ap (missing_by part.Inputs) (sym is)) (i, c, ts, no_part i, refl, ap is_close_brace is, ea),
          λ f v al. main_alike i false b c ts v is ea eb _ (λ x us. refl) al,
        )
        go true false ea eb = (
          [],
          refl,
          lacking part.Outputs (parts_begun i) (ap (missing_by part.Outputs) (sym is)) (i, c, ts, no_part i, refl, ap is_close_brace is, (ea, eb)),
          λ f v al. main_alike i true false c ts v is ea eb _ (λ x us. refl) al,
        )
        go true true ea eb = (
          c ∷ [],
          refl,
          ([], c, i, refl, no_part i, ea, eb, refl, ap is_close_brace is),
          λ v al. closes_main i c v is ∙ ap (λ z. sides z i.outputs i.sections (c ∷ v) v) ea ∙ ap (λ z. sides true z i.sections (c ∷ v) v) eb,
        )

  parts_more_text : (i : Parts) (u : List Lexeme) (j : Parts) (v : List Lexeme) (all : Sections) → PartText n i u j → PartsText n j v all → PartsText n i (u ++ v) all
  parts_more_text i u j v all (x, quiet) (w, c, k, e, xs, ei, eo, ea, ic) =
      (u ++ w, c, k, ap (λ z. u ++ z) e ∙ sym (append_assoc u w (c ∷ [])), part_more i j k u w x xs, ei, eo, ea, ic)

  parts_more_stop : (i : Parts) (u : List Lexeme) (j : Parts) (p : List Lexeme) (f : TextFault) (v : List Lexeme) → PartText n i u j → PartsStop n j p f v → PartsStop n i (u ++ p) f v
  parts_more_stop i u j p f v (x, quiet) stop =
      stop_behind (PartsLack n j) (PartsLack n i) (λ k. BeginsParts k j) (λ k. BeginsParts k i) n u p f v (parts_carried n i j u x) (ends-append u p quiet)
      (λ part h. (h.0, h.1, h.2, part_more i j h.0 u p x h.3, h.4, h.5, h.6)) stop

  parts_stuck : (i : Parts) → in_braces s.End ≡ true → (e : Halt) × (read_part n i [] ≡ Err e) × (close_main i [] ≡ Err e)
  unfolding read_part close_main
  parts_stuck i go = ((expected [], []), refl, refl)

  parts_stuck' : (i : Parts) → in_braces s.End ≡ true → (h : Halt) → read_part m i [] ≡ Err h → close_main i [] ≡ Err h
  unfolding read_part close_main
  parts_stuck' i go h e = ap (λ r. Err (halt_of r)) e

  part_here : (i : Parts) (p : List Lexeme) (f : TextFault) (v : List Lexeme) → PartStop n i p f v → PartsStop n i p f v
  part_here i p f v stop = stop_behind no_lack (PartsLack n i) (λ k. BeginsPart k i) (λ k. BeginsParts k i) n [] p f v (λ k r h b. in_parts i i [] r (no_part i) b) (λ h. h) (λ part x. absurd x) stop

  abbrev pub main_run : ℕ → List Lexeme → Read Sections
  main_run k w = run in_braces (read_part k) close_main (length w) no_parts w

  at_parts : (w : List Lexeme) → Good Fits (PartsText n no_parts) (PartsStop n no_parts) (By (main_run m)) w (main_run n w)
  at_parts w =
      weaker Fits (PartsText n no_parts) (PartsText n no_parts) (PartsStop n no_parts) (PartsStop n no_parts) (λ x q. (k : ℕ) → length x ≤ k → run in_braces (read_part m) close_main k no_parts x ≡ q) (By (main_run m)) w (main_run n w)
      (λ u a h. h) (λ p f v h. h) (λ x q h. h (length x) (omega arith))
      (loop Fits in_braces (read_part n) (read_part m) close_main close_main (PartText n) (PartStop n) (PartsText n) (PartsStop n)
      (λ i w go. at_one_part i w) parts_closed part_here
      parts_more_text parts_more_stop (λ i u j h. part_some h.0) parts_stuck parts_stuck' (length w) no_parts w (omega arith))

  abbrev pub MainStop : Stops
  MainStop = Stop (LacksInMain n) BeginsMain n

  main_head_stop : (p : List Lexeme) (f : TextFault) (v : List Lexeme) → HeadStop is_main part.Main p f v → MainStop p f v
  main_head_stop p f v (at_word e fault) = subst (λ q. MainStop q f v) (sym e) (lacking part.Main (at_main [] tt) fault (no_main v))
  main_head_stop p f v (at_brace a e is fault) = subst (λ q. MainStop q f v) (sym e) (not_expected (at_main (a ∷ []) (is, tt)) fault (begins_row_quiet (is_main ∷ is_open_brace ∷ []) (main_class, (open_brace_class, tt)) (a ∷ []) (is, tt)))

  lack_in_main : (a b : Lexeme) → IsRow (is_main ∷ is_open_brace ∷ []) (a ∷ b ∷ []) → (p v : List Lexeme) (which : Part) → PartsLack n no_parts which p v → LacksInMain n which (a ∷ b ∷ p) v
  lack_in_main a b row p v part.Inputs (j, c, r, xs, ev, ic, none) = subst (LacksInMain n part.Inputs (a ∷ b ∷ p)) (sym ev) (no_inputs a b p j c r row xs ic none)
  lack_in_main a b row p v part.Outputs (j, c, r, xs, ev, ic, (some, none)) = subst (LacksInMain n part.Outputs (a ∷ b ∷ p)) (sym ev) (no_outputs a b p j c r row xs ic some none)
  lack_in_main a b row p v which (j, c, r, xs, ev, ic, none) = absurd none

  pub at_main_part : (w : List Lexeme) → Good Fits (IsMain n) MainStop (By (read_main m)) w (read_main n w)
  unfolding read_main read_parts
  at_main_part w =
      subst (Good Fits (IsMain n) MainStop (By (read_main m)) w) (sym (same n w))
      (weaker Fits (IsMain n) (IsMain n) MainStop MainStop (By (λ x. part_word is_main part.Main x >>= mark is_open_brace >>= main_run m)) (By (read_main m)) w (part_word is_main part.Main w >>= mark is_open_brace >>= main_run n)
      (λ u a h. h) (λ p f v h. h) (λ x q h. same m x ∙ h)
      (past-then Fits (HeadText is_main) (HeadStop is_main part.Main) (λ x. part_word is_main part.Main x >>= mark is_open_brace) (main_run m) (IsMain n) MainStop w (part_word is_main part.Main w >>= mark is_open_brace) (main_run n)
      (at_head Fits is_main main_class part.Main w) main_head_stop
      (λ u v e h. weaker Fits (PartsText n no_parts) (λ x b. IsMain n (u ++ x) b) (PartsStop n no_parts) (λ p f z. MainStop (u ++ p) f z) (By (main_run m)) (By (main_run m)) v (main_run n v)
      (λ x b y. text u h.0 h.1 h.2 h.3 x b y) (λ p f z st. stop u h.0 h.1 h.2 h.3 p f z st) (λ x q o. o) (at_parts v))))
    where
      same : (k : ℕ) (x : List Lexeme) → read_main k x ≡ (part_word is_main part.Main x >>= mark is_open_brace >>= main_run k)
      same k x = bind_assoc (part_word is_main part.Main x >>= mark is_open_brace) (read_parts k) (λ r. close_main r.0 r.1)

      text : (u : List Lexeme) (a b : Lexeme) → u ≡ a ∷ b ∷ [] → IsRow (is_main ∷ is_open_brace ∷ []) (a ∷ b ∷ []) → (x : List Lexeme) (all : Sections) → PartsText n no_parts x all → IsMain n (u ++ x) all
      text u a b eu row x all (y, c, j, e, xs, ei, eo, ea, ic) =
          subst (λ z. IsMain n (z ++ x) all) (sym eu) (subst (λ z. IsMain n (a ∷ b ∷ z) all) (sym e) (subst (IsMain n (a ∷ b ∷ y ++ c ∷ [])) (sym ea)
          (is_whole_main a b c y j row xs ei eo ic)))

      stop : (u : List Lexeme) (a b : Lexeme) → u ≡ a ∷ b ∷ [] → IsRow (is_main ∷ is_open_brace ∷ []) (a ∷ b ∷ []) → (p : List Lexeme) (f : TextFault) (z : List Lexeme) → PartsStop n no_parts p f z → MainStop (u ++ p) f z
      stop u a b eu row p f z st =
          subst (λ q. MainStop (q ++ p) f z) (sym eu)
          (stop_behind (PartsLack n no_parts) (LacksInMain n) (λ k. BeginsParts k no_parts) BeginsMain n (a ∷ b ∷ []) p f z
          (λ k r h b'. in_main a b r row b')
          (ends-append (a ∷ b ∷ []) p (row_quiet (is_main ∷ is_open_brace ∷ []) (main_class, (open_brace_class, tt)) (a ∷ b ∷ []) row))
          (λ which h. lack_in_main a b row p z which h) st)
