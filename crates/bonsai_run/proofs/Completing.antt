-- An order that can be answered has no cause to be refused, but for a text that isn't fetched and for want of memory.
use Rattle.std.proofs.Common.{◌≡◌, ℕ, ◌≤◌, Bool, List, length, Option, Some, Err, refl, sym, ap, ◌∙◌, subst, arith}
use Rattle.std.proofs.lemmas.Option.{same_Some}
use Rattle.shelf_io.specs.Faults.{Rose}
use Rattle.shelf_io.specs.Texts.{Texts}
use Rattle.word_core.specs.declared.names.Player.{Player}
use Rattle.word_core.specs.declared.names.Player.TheVariants.{Environment}
use Rattle.word_core.specs.Lasso.{LassoData}
use Rattle.word_core.specs.Machine.{MachineData, IsMachine}
use Rattle.machine_text.specs.declared.errors.LassoError.TheVariants as lasso
use Rattle.machine_text.specs.declared.errors.MachineError.{MachineError}
use Rattle.machine_text.specs.declared.errors.MachineError.TheVariants as machine
use Rattle.machine_text.specs.Lassos.{IsLasso, lasso_text}
use Rattle.machine_text.specs.Machines.{AreWhole, HasMachineFault, Spells}
use Rattle.machine_text.proofs.BackLaws.{back_on_fault, machines_same}
use Rattle.machine_text.proofs.LassoLaws.{fault_back}
use Rattle.tlsf_basic.specs.declared.faults.TextFault.{TextFault}
use Rattle.tlsf_basic.specs.declared.specifications.Spec.{Spec}
use Rattle.tlsf_basic.specs.Laws.{IsSameSpec}
use Rattle.tlsf_basic.specs.Specification.{IsFault, IsSpec, signal_count}
use Rattle.tlsf_basic.proofs.OneAnswer.{one_answer}
use Rattle.dual_game.specs.declared.errors.GameError.{GameError}
use Rattle.dual_game.specs.declared.errors.GameError.TheVariants as game
use Rattle.dual_game.specs.Automata.{IsLimitOf, IsLimitOfPair, formula_count}
use Rattle.bonsai_words.specs.Ordered.{Asked}
use Rattle.bonsai_words.specs.Ordered.Asked.{synth, downset, check, eval, gen}
use Rattle.bonsai_run.specs.declared.faults.Source.TheVariants.{Specification, Other}
use Rattle.bonsai_run.specs.declared.faults.Fault.{Fault}
use Rattle.bonsai_run.specs.declared.faults.Fault.TheVariants.{Unwritten, Usage, Unread, Text, Line, Gap, NotFirst, Length, Formulas, Covers, States, Memory}
use Rattle.bonsai_run.specs.Causes.{ByLimit, HasLimitFor, HasMachineLimit, IsCause, IsCauseOf, IsCauseOfTwo, IsCheckFault, IsEvalFault, IsLater, IsOfText, IsUnreadable}
use Rattle.bonsai_run.specs.Complete.{PassesNone, IsAnswerable}
use Rattle.bonsai_run.specs.Faults.{Blames, status_of}
use Rattle.bonsai_run.specs.Texts.{IsUnder, IsSpecOf, IsTooLong}
use Rattle.bonsai_run.proofs.SameSpecs.{formulas_same, inputs_whole, limit_same, outputs_whole, pair_limit_same, count_same, spells_same}

-- a fault that an order may have which can be answered
abbrev IsExcused : Fault → Type 0
IsExcused (Unread s) = Unit {0}
IsExcused Memory = Unit {0}
IsExcused _ = ⊥

-- ---- limits

formulas_apart : game.TooManyFormulas ≡ game.Memory → ⊥
formulas_apart e = cc

wide_apart : game.TooWide ≡ game.Memory → ⊥
wide_apart e = cc

states_apart : game.TooManyStates ≡ game.Memory → ⊥
states_apart e = cc

by_none : (passed : GameError → Type 0) → PassesNone passed → (e : Fault) → ByLimit passed e → IsExcused e
by_none passed none Formulas h = formulas_apart (none game.TooManyFormulas h)
by_none passed none Covers h = wide_apart (none game.TooWide h)
by_none passed none States h = states_apart (none game.TooManyStates h)
by_none passed none Memory h = tt
by_none passed none Unwritten h = h
by_none passed none Usage h = h
by_none passed none (Unread s) h = tt
by_none passed none (Text what place) h = h
by_none passed none (Line l) h = h
by_none passed none (Gap s) h = h
by_none passed none (NotFirst s) h = h
by_none passed none (Length s) h = h

-- ---- texts

line_apart : (n : ℕ) → machine.Line n ≡ machine.Memory → ⊥
line_apart n e = cc

gap_apart : (n : ℕ) → machine.Gap n ≡ machine.Memory → ⊥
gap_apart n e = cc

not_first_apart : (n : ℕ) → machine.NotFirst n ≡ machine.Memory → ⊥
not_first_apart n e = cc

lasso_apart : (n : ℕ) → lasso.Line n ≡ lasso.Memory → ⊥
lasso_apart n e = cc

-- the text of a machine
module _ (spec : Spec) (text : List ℕ) (m : MachineData) (inputs : AreWhole spec.names.inputs.items) (outputs : AreWhole spec.names.outputs.items) (is : IsMachine m) (spells : Spells spec.names text m) (none : PassesNone (IsLimitOf spec m.player)) where
  faultless : (e : MachineError) → HasMachineFault spec.names text e → e ≡ machine.Memory
  faultless e h = (back_on_fault spec.names text (Err e) e refl h inputs outputs m is spells).1

  limitless : (e : Fault) → HasMachineLimit spec text e → IsExcused e
  limitless e h =
      let same : h.machine ≡ m = machines_same spec.names text h.machine m inputs outputs h.spells spells in
      by_none (IsLimitOf spec m.player) none e (subst (λ (n : MachineData). ByLimit (IsLimitOf spec n.player) e) same h.limit)

  checked : (e : Fault) → IsCheckFault spec text e → IsExcused e
  checked (Line l) h = line_apart l (faultless (machine.Line l) h)
  checked (Gap s) h = gap_apart s (faultless (machine.Gap s) h)
  checked (NotFirst s) h = not_first_apart s (faultless (machine.NotFirst s) h)
  checked Memory h = tt
  checked Formulas h = limitless Formulas h
  checked Covers h = limitless Covers h
  checked States h = limitless States h
  checked Unwritten h = limitless Unwritten h
  checked Usage h = limitless Usage h
  checked (Unread s) h = tt
  checked (Text what place) h = limitless (Text what place) h
  checked (Length s) h = limitless (Length s) h

-- the text of a lasso
evaluated : (spec : Spec) (text : List ℕ) (w : LassoData) → IsLasso (signal_count spec.names) w → text ≡ lasso_text (signal_count spec.names) w → formula_count spec Environment ≤ 512
    → (e : Fault) → IsEvalFault spec text e → IsExcused e
evaluated spec text w is spells few (Line l) h = lasso_apart l (fault_back (signal_count spec.names) text (lasso.Line l) h w is spells)
evaluated spec text w is spells few Formulas h = let many = h.many in absurd (omega (arith, few, many))
evaluated spec text w is spells few Memory h = tt
evaluated spec text w is spells few (Unread s) h = tt
evaluated spec text w is spells few Covers h = h
evaluated spec text w is spells few States h = h
evaluated spec text w is spells few (Gap s) h = h
evaluated spec text w is spells few (NotFirst s) h = h
evaluated spec text w is spells few Unwritten h = h
evaluated spec text w is spells few Usage h = h
evaluated spec text w is spells few (Text what place) h = h
evaluated spec text w is spells few (Length s) h = h

-- ---- the first step that fails

module _ (told : Texts) where
  pub one_text : (name t u : List ℕ) → IsUnder (Some told) name t → IsUnder (Some told) name u → t ≡ u
  one_text name t u one other = same_Some t u (sym (one told refl) ∙ other told refl)

  not_long : (name t : List ℕ) → IsUnder (Some told) name t → length t ≤ 1048576 → IsTooLong (Some told) name → ⊥
  not_long name t under short long =
      let l = long told refl in
      let same : t ≡ l.0 = same_Some t l.0 (sym (under told refl) ∙ l.1) in
      let size : length t ≡ length l.0 = ap length same in
      omega (arith, short, size, l.2)

  -- two readings of one text
  pub one_spec : (name : List ℕ) (as_written : Bool) (spec other : Spec) → IsSpecOf (Some told) name as_written spec → IsSpecOf (Some told) name as_written other → IsSameSpec spec other
  one_spec name as_written spec other is also =
      let same : also.text ≡ is.text = one_text name also.text is.text also.under is.under in
      (one_answer is.text as_written).1 spec other is.is (subst (λ t. IsSpec t as_written other) same also.is)

  module _ (name : List ℕ) (as_written : Bool) (spec : Spec) (is : IsSpecOf (Some told) name as_written spec) where
    unfaulted : (t : List ℕ) (what : TextFault) (place : ℕ) → IsUnder (Some told) name t → IsFault t as_written what place → ⊥
    unfaulted t what place under fault =
        (one_answer t as_written).2 spec what place (subst (λ u. IsSpec u as_written spec) (one_text name is.text t is.under under) is.is) fault

    unread : (e : Fault) → IsUnreadable (Some told) name as_written e → IsExcused e
    unread (Unread s) h = tt
    unread Memory h = tt
    unread (Length Specification) h = not_long name is.text is.under is.short h
    unread (Length Other) h = h
    unread (Text what place) h = unfaulted h.0 what place h.1 h.3
    unread Unwritten h = h
    unread Usage h = h
    unread (Line l) h = h
    unread (Gap s) h = h
    unread (NotFirst s) h = h
    unread Formulas h = h
    unread Covers h = h
    unread States h = h

    no_cause : (is_of : Spec → Fault → Type 0) → ((e : Fault) → IsLater (Some told) name as_written is_of e → IsExcused e) → (e : Fault) → IsCause (Some told) name as_written is_of e → IsExcused e
    no_cause is_of none (Line l) h = none (Line l) h
    no_cause is_of none (Gap s) h = none (Gap s) h
    no_cause is_of none (NotFirst s) h = none (NotFirst s) h
    no_cause is_of none Formulas h = none Formulas h
    no_cause is_of none Covers h = none Covers h
    no_cause is_of none States h = none States h
    no_cause is_of none Unwritten h = h
    no_cause is_of none Usage h = h
    no_cause is_of none (Unread s) h = tt
    no_cause is_of none (Text what place) h = unread (Text what place) h
    no_cause is_of none (Length s) h = unread (Length s) h
    no_cause is_of none Memory h = tt

    module _ (other t : List ℕ) (under : IsUnder (Some told) other t) (short : length t ≤ 1048576) (is_of : Spec → List ℕ → Fault → Type 0) (none : (s : Spec) → IsSpecOf (Some told) name as_written s → (e : Fault) → is_of s t e → IsExcused e) where
      later_of_two : (e : Fault) → IsLater (Some told) name as_written (IsOfText (Some told) other is_of) e → IsExcused e
      later_of_two e h = none h.spec h.is e (subst (λ u. is_of h.spec u e) (one_text other h.why.text t h.why.under under) h.why.why)

      no_cause_of_two : (e : Fault) → IsCauseOfTwo (Some told) name other as_written is_of e → IsExcused e
      no_cause_of_two (Unread s) h = tt
      no_cause_of_two (Length Specification) h = unread (Length Specification) h
      no_cause_of_two (Length Other) h = not_long other t under short h.1
      no_cause_of_two (Line l) h = later_of_two (Line l) h
      no_cause_of_two (Gap s) h = later_of_two (Gap s) h
      no_cause_of_two (NotFirst s) h = later_of_two (NotFirst s) h
      no_cause_of_two Formulas h = later_of_two Formulas h
      no_cause_of_two Covers h = later_of_two Covers h
      no_cause_of_two States h = later_of_two States h
      no_cause_of_two Unwritten h = h
      no_cause_of_two Usage h = h
      no_cause_of_two (Text what place) h = unread (Text what place) h
      no_cause_of_two Memory h = tt

    no_synth : PassesNone (IsLimitOfPair spec) → (e : Fault) → IsLater (Some told) name as_written (λ s. ByLimit (IsLimitOfPair s)) e → IsExcused e
    no_synth none e h = by_none (IsLimitOfPair h.spec) (λ l p. none l (pair_limit_same h.spec spec (one_spec name as_written h.spec spec h.is is) l p)) e h.why

    no_downset : (player : Player) → PassesNone (IsLimitOf spec player) → (e : Fault) → IsLater (Some told) name as_written (HasLimitFor player) e → IsExcused e
    no_downset player none e h = by_none (IsLimitOf h.spec player) (λ l p. none l (limit_same h.spec spec (one_spec name as_written h.spec spec h.is is) player l p)) e h.why.limit

    no_check : (t : List ℕ) (m : MachineData) → IsMachine m → Spells spec.names t m → PassesNone (IsLimitOf spec m.player)
        → (s : Spec) → IsSpecOf (Some told) name as_written s → (e : Fault) → IsCheckFault s t e → IsExcused e
    no_check t m fits spells none s also e h =
        checked s t m (inputs_whole also.text as_written s also.is) (outputs_whole also.text as_written s also.is) fits (spells_same spec s (one_spec name as_written spec s is also) t m spells)
        (λ l p. none l (limit_same s spec (one_spec name as_written s spec also is) m.player l p)) e h

    no_eval : (t : List ℕ) (w : LassoData) → IsLasso (signal_count spec.names) w → t ≡ lasso_text (signal_count spec.names) w → formula_count spec Environment ≤ 512
        → (s : Spec) → IsSpecOf (Some told) name as_written s → (e : Fault) → IsEvalFault s t e → IsExcused e
    no_eval t w fits spells few s also e h =
        let same = one_spec name as_written spec s is also in
        let count : signal_count spec.names ≡ signal_count s.names = count_same spec s same in
        evaluated s t w (subst (λ n. IsLasso n w) count fits) (spells ∙ ap (λ n. lasso_text n w) count) (subst (λ n. n ≤ 512) (formulas_same spec s same Environment) few) e h

  excused : (order : Asked) → IsAnswerable told order → (e : Fault) → IsCauseOf (Some told) order e → IsExcused e
  excused (synth name bounds workers as_written) h e c = no_cause name as_written h.0 h.1 (λ s. ByLimit (IsLimitOfPair s)) (no_synth name as_written h.0 h.1 h.2) e c
  excused (downset name player bound as_written) h e c = no_cause name as_written h.0 h.1 (HasLimitFor player) (no_downset name as_written h.0 h.1 player h.2) e c
  excused (check name other bound as_written) h e c =
      let m = h.3 in
      no_cause_of_two name as_written h.0 h.2 other m.text m.under m.short IsCheckFault (no_check name as_written h.0 h.2 m.text h.1 m.is m.spells h.4) e c
  excused (eval name other as_written) h e c =
      let w = h.3 in
      no_cause_of_two name as_written h.0 h.2 other w.text w.under w.short IsEvalFault (no_eval name as_written h.0 h.2 w.text h.1 w.is w.spells h.4) e c
  excused (gen clients workers) h e c = generated e c
    where
      generated : (e : Fault) → IsCauseOf (Some told) (gen clients workers) e → IsExcused e
      generated Memory c = tt
      generated Formulas c = by_none (IsLimitOfPair c.spec) (h c.spec c.is) Formulas c.limit
      generated Covers c = by_none (IsLimitOfPair c.spec) (h c.spec c.is) Covers c.limit
      generated States c = by_none (IsLimitOfPair c.spec) (h c.spec c.is) States c.limit
      generated Unwritten c = c.limit
      generated Usage c = c.limit
      generated (Unread s) c = tt
      generated (Text what place) c = c.limit
      generated (Line l) c = c.limit
      generated (Gap s) c = c.limit
      generated (NotFirst s) c = c.limit
      generated (Length s) c = c.limit

-- ---- the status

status_six : (e : Fault) (before now : ℕ) (last : Option (List ℕ)) (name other : List ℕ) (status : ℕ) → IsExcused e → Blames before now last name other e → (Rose before now → ⊥) → status ≡ status_of e → status ≡ 6
status_six (Unread s) before now last name other status h b calm is = absurd (calm b.0)
status_six Memory before now last name other status h b calm is = is
status_six (Length s) before now last name other status h b calm is = absurd h
status_six Unwritten before now last name other status h b calm is = absurd h
status_six Usage before now last name other status h b calm is = absurd h
status_six (Text what place) before now last name other status h b calm is = absurd h
status_six (Line l) before now last name other status h b calm is = absurd h
status_six (Gap s) before now last name other status h b calm is = absurd h
status_six (NotFirst s) before now last name other status h b calm is = absurd h
status_six Formulas before now last name other status h b calm is = absurd h
status_six Covers before now last name other status h b calm is = absurd h
status_six States before now last name other status h b calm is = absurd h

-- a refusal of an order that can be answered
pub refused_for_memory : (told : Texts) (order named : Asked) (words : Option Asked) → words ≡ Some named → words ≡ Some order → IsAnswerable told order
    → (texts : Option Texts) → texts ≡ Some told → (e : Fault) → IsCauseOf texts named e
    → (before now : ℕ) (last : Option (List ℕ)) (name other : List ℕ) → Blames before now last name other e → (Rose before now → ⊥) → (status : ℕ) → status ≡ status_of e → status ≡ 6
refused_for_memory told order named words one two can texts tells e cause before now last name other blames calm status is =
    let same : named ≡ order = same_Some named order (sym one ∙ two) in
    let why : IsCauseOf (Some told) order e = subst (λ t. IsCauseOf t order e) tells (subst (λ o. IsCauseOf texts o e) same cause) in
    status_six e before now last name other status (excused told order can e why) blames calm is
