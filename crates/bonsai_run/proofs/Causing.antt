-- Why an order is refused: by the step that fails.
use Rattle.std.proofs.Common.{refl, subst}
use Rattle.std.specs.Prelude.{◌≡◌, ℕ, ◌≤◌, ◌<◌, Bool, false, Option, List, length, Result, Ok, Err, IfOk, IfErr}
use Rattle.shelf_io.specs.Texts.{Texts}
use Rattle.ltl_form.specs.declared.normals.FormError.{FormError}
use Rattle.ltl_form.specs.declared.normals.FormError.TheVariants as form
use Rattle.machine_text.specs.declared.errors.MachineError.{MachineError}
use Rattle.machine_text.specs.declared.errors.MachineError.TheVariants as machine
use Rattle.machine_text.specs.declared.errors.LassoError.{LassoError}
use Rattle.machine_text.specs.declared.errors.LassoError.TheVariants as lasso
use Rattle.machine_text.specs.Lassos.{HasLassoFault, IsLasso, lasso_text}
use Rattle.machine_text.specs.Machines.{HasMachineFault, Spells}
use Rattle.tlsf_basic.specs.declared.specifications.Spec.{Spec}
use Rattle.tlsf_basic.specs.Specification.{IsFault, IsRefused, IsSpec, signal_count}
use Rattle.tlsf_basic.specs.declared.faults.TextError.{TextError}
use Rattle.tlsf_basic.specs.declared.faults.TextError.TheVariants as text
use Rattle.word_core.specs.declared.names.Player.{Player}
use Rattle.word_core.specs.declared.names.Player.TheVariants.{Environment}
use Rattle.word_core.specs.Lasso.{LassoData}
use Rattle.word_core.specs.Machine.{MachineData}
use Rattle.dual_game.specs.declared.errors.GameError.{GameError}
use Rattle.dual_game.specs.declared.errors.GameError.TheVariants as game
use Rattle.dual_game.specs.Automata.{IsLimitOf, IsLimitOfPair, formula_count}
use Rattle.spec_gen.specs.Arbiter.{arbiter_text}
use Rattle.bonsai_run.specs.declared.faults.Source.TheVariants.{Specification, Other}
use Rattle.bonsai_run.specs.declared.faults.Fault.{Fault}
use Rattle.bonsai_run.specs.declared.faults.Fault.TheVariants.{Unwritten, Usage, Unread, Text, Line, Gap, NotFirst, Length, Formulas, Covers, States, Memory}
use Rattle.bonsai_run.specs.Causes.{ByLimit, HasLimitFor, IsCause, IsCauseOfTwo, IsCheckFault, IsEvalFault, IsFetchFault, IsGenFault, IsLater, IsOfText, IsRead, IsUnreadable}
use Rattle.bonsai_run.specs.Errors.{of_form, of_game, of_lasso, of_machine, of_text}
use Rattle.bonsai_run.specs.Texts.{IsUnder, IsSpecOf}
use Rattle.bonsai_run.proofs.Generated.{arbiter_has_no_fault}

-- ---- the errors of lower steps

pub by_limit : (passed : GameError → Type 0) (e : GameError) → passed e → ByLimit passed (of_game e)
by_limit passed game.TooManyFormulas h = h
by_limit passed game.TooWide h = h
by_limit passed game.TooManyStates h = h
by_limit passed game.Memory h = tt

pub machine_fault : (spec : Spec) (t : List ℕ) (e : MachineError) → HasMachineFault spec.names t e → IsCheckFault spec t (of_machine e)
machine_fault spec t (machine.Line l) h = h
machine_fault spec t (machine.Gap s) h = h
machine_fault spec t (machine.NotFirst s) h = h
machine_fault spec t machine.Memory h = tt

pub machine_limit : (spec : Spec) (t : List ℕ) (m : MachineData) → Spells spec.names t m → (e : GameError) → IsLimitOf spec m.player e → IsCheckFault spec t (of_game e)
machine_limit spec t m spells game.TooManyFormulas h = record { machine = m; spells = spells; limit = h }
machine_limit spec t m spells game.TooWide h = record { machine = m; spells = spells; limit = h }
machine_limit spec t m spells game.TooManyStates h = record { machine = m; spells = spells; limit = h }
machine_limit spec t m spells game.Memory h = tt

pub lasso_fault : (spec : Spec) (t : List ℕ) (e : LassoError) → HasLassoFault (signal_count spec.names) t e → IsEvalFault spec t (of_lasso e)
lasso_fault spec t (lasso.Line l) h = h
lasso_fault spec t lasso.Memory h = tt

pub lasso_limit : (spec : Spec) (t : List ℕ) (w : LassoData) (signals : ℕ) → signals ≡ signal_count spec.names → IsLasso signals w × (t ≡ lasso_text signals w)
    → (e : FormError) → (e ≡ form.TooManyFormulas → 512 < formula_count spec Environment) → IsEvalFault spec t (of_form e)
lasso_limit spec t w signals same is form.TooManyFormulas many =
    let at = subst (λ n. IsLasso n w × (t ≡ lasso_text n w)) same is in
    record { word = w; is = at.0; spells = at.1; many = many refl }
lasso_limit spec t w signals same is form.Memory many = tt

-- a text that is no specification
pub text_fault : (texts : Option Texts) (name : List ℕ) (as_written : Bool) (t : List ℕ) → IsUnder texts name t → length t ≤ 1048576 → (e : TextError) → IsRefused t as_written e → IsUnreadable texts name as_written (of_text e)
text_fault texts name as_written t under short (text.Fault what place) h = (t, under, short, h)
text_fault texts name as_written t under short text.Memory h = tt

-- of a generated text
module _ (clients : ℕ) where
  pub gen_fault : 1 ≤ clients → clients ≤ 8 → (t : List ℕ) → t ≡ arbiter_text clients → (e : TextError) → IsRefused t false e → IsGenFault clients (of_text e)
  gen_fault some small t is (text.Fault what place) h = absurd (arbiter_has_no_fault clients some small false what place (subst (λ x. IsFault x false what place) is h))
  gen_fault some small t is text.Memory h = tt

  pub gen_limit : (spec : Spec) → IsSpec (arbiter_text clients) false spec → (e : Fault) → ByLimit (IsLimitOfPair spec) e → IsGenFault clients e
  gen_limit spec is Formulas h = record { spec = spec; is = is; limit = h }
  gen_limit spec is Covers h = record { spec = spec; is = is; limit = h }
  gen_limit spec is States h = record { spec = spec; is = is; limit = h }
  gen_limit spec is Memory h = tt
  gen_limit spec is Unwritten h = absurd h
  gen_limit spec is Usage h = absurd h
  gen_limit spec is (Unread s) h = absurd h
  gen_limit spec is (Text what place) h = absurd h
  gen_limit spec is (Line l) h = absurd h
  gen_limit spec is (Gap s) h = absurd h
  gen_limit spec is (NotFirst s) h = absurd h
  gen_limit spec is (Length s) h = absurd h

-- ---- the first step that fails

module _ (texts : Option Texts) (name : List ℕ) (as_written : Bool) where
  pub first_cause : (is_of : Spec → Fault → Type 0) (e : Fault) → IsUnreadable texts name as_written e → IsCause texts name as_written is_of e
  first_cause is_of (Unread s) h = h
  first_cause is_of (Length s) h = h
  first_cause is_of (Text what place) h = h
  first_cause is_of Memory h = h
  first_cause is_of Unwritten h = absurd h
  first_cause is_of Usage h = absurd h
  first_cause is_of (Line l) h = absurd h
  first_cause is_of (Gap s) h = absurd h
  first_cause is_of (NotFirst s) h = absurd h
  first_cause is_of Formulas h = absurd h
  first_cause is_of Covers h = absurd h
  first_cause is_of States h = absurd h

  module _ (spec : Spec) (is : IsSpecOf texts name as_written spec) where
    later : (is_of : Spec → Fault → Type 0) (e : Fault) → is_of spec e → IsLater texts name as_written is_of e
    later is_of e h = record { spec = spec; is = is; why = h }

    limit_cause : (passed : Spec → GameError → Type 0) (e : Fault) → ByLimit (passed spec) e → IsCause texts name as_written (λ s. ByLimit (passed s)) e
    limit_cause passed Formulas h = later (λ s. ByLimit (passed s)) Formulas h
    limit_cause passed Covers h = later (λ s. ByLimit (passed s)) Covers h
    limit_cause passed States h = later (λ s. ByLimit (passed s)) States h
    limit_cause passed Memory h = tt
    limit_cause passed Unwritten h = absurd h
    limit_cause passed Usage h = absurd h
    limit_cause passed (Unread s) h = absurd h
    limit_cause passed (Text what place) h = absurd h
    limit_cause passed (Line l) h = absurd h
    limit_cause passed (Gap s) h = absurd h
    limit_cause passed (NotFirst s) h = absurd h
    limit_cause passed (Length s) h = absurd h

    player_cause : (player : Player) (e : Fault) → ByLimit (IsLimitOf spec player) e → IsCause texts name as_written (HasLimitFor player) e
    player_cause player Formulas h = later (HasLimitFor player) Formulas (record { limit = h })
    player_cause player Covers h = later (HasLimitFor player) Covers (record { limit = h })
    player_cause player States h = later (HasLimitFor player) States (record { limit = h })
    player_cause player Memory h = tt
    player_cause player Unwritten h = absurd h
    player_cause player Usage h = absurd h
    player_cause player (Unread s) h = absurd h
    player_cause player (Text what place) h = absurd h
    player_cause player (Line l) h = absurd h
    player_cause player (Gap s) h = absurd h
    player_cause player (NotFirst s) h = absurd h
    player_cause player (Length s) h = absurd h

    pub limit_causes : {T : Type 0} (passed : Spec → GameError → Type 0) (r : Result T Fault) → IfErr r (ByLimit (passed spec)) → IfErr r (IsCause texts name as_written (λ s. ByLimit (passed s)))
    limit_causes passed (Ok x) h = tt
    limit_causes passed (Err e) h = limit_cause passed e h

    pub player_limits : {T : Type 0} (player : Player) (r : Result T Fault) → IfErr r (ByLimit (IsLimitOf spec player)) → IfErr r (IsCause texts name as_written (HasLimitFor player))
    player_limits player (Ok x) h = tt
    player_limits player (Err e) h = player_cause player e h

  -- ---- of an order with a second name

  module _ (other : List ℕ) (is_of : Spec → List ℕ → Fault → Type 0) where
    pub first_of_two : (e : Fault) → IsUnreadable texts name as_written e → IsCauseOfTwo texts name other as_written is_of e
    first_of_two (Unread Specification) h = tt
    first_of_two (Unread Other) h = absurd h
    first_of_two (Length Specification) h = h
    first_of_two (Length Other) h = absurd h
    first_of_two (Text what place) h = h
    first_of_two Memory h = tt
    first_of_two Unwritten h = absurd h
    first_of_two Usage h = absurd h
    first_of_two (Line l) h = absurd h
    first_of_two (Gap s) h = absurd h
    first_of_two (NotFirst s) h = absurd h
    first_of_two Formulas h = absurd h
    first_of_two Covers h = absurd h
    first_of_two States h = absurd h

    apart : Specification ≡ Other → ⊥
    apart e = cc

    pub fetch_cause : IsRead texts name as_written → (e : Fault) → IsFetchFault texts name other Other e → IsCauseOfTwo texts name other as_written is_of e
    fetch_cause read (Unread Specification) h = tt
    fetch_cause read (Unread Other) h = read
    fetch_cause read (Length Specification) h = absurd (apart h.0)
    fetch_cause read (Length Other) h = (read, h.1)
    fetch_cause read Memory h = tt
    fetch_cause read Formulas h = absurd h
    fetch_cause read Covers h = absurd h
    fetch_cause read States h = absurd h
    fetch_cause read Unwritten h = absurd h
    fetch_cause read Usage h = absurd h
    fetch_cause read (Text what place) h = absurd h
    fetch_cause read (Line l) h = absurd h
    fetch_cause read (Gap s) h = absurd h
    fetch_cause read (NotFirst s) h = absurd h

  module _ (spec : Spec) (is : IsSpecOf texts name as_written spec) (other t : List ℕ) (under : IsUnder texts other t) (short : length t ≤ 1048576) where
    of_other : (is_of : Spec → List ℕ → Fault → Type 0) (e : Fault) → is_of spec t e → IsLater texts name as_written (IsOfText texts other is_of) e
    of_other is_of e h = record { spec = spec; is = is; why = record { text = t; under = under; short = short; why = h } }

    check_cause : (e : Fault) → IsCheckFault spec t e → IsCauseOfTwo texts name other as_written IsCheckFault e
    check_cause Formulas h = of_other IsCheckFault Formulas h
    check_cause Covers h = of_other IsCheckFault Covers h
    check_cause States h = of_other IsCheckFault States h
    check_cause (Line l) h = of_other IsCheckFault (Line l) h
    check_cause (Gap s) h = of_other IsCheckFault (Gap s) h
    check_cause (NotFirst s) h = of_other IsCheckFault (NotFirst s) h
    check_cause Memory h = tt
    check_cause Unwritten h = absurd h.limit
    check_cause Usage h = absurd h.limit
    check_cause (Unread s) h = absurd h.limit
    check_cause (Text what place) h = absurd h.limit
    check_cause (Length s) h = absurd h.limit

    pub check_causes : {T : Type 0} (r : Result T Fault) → IfErr r (IsCheckFault spec t) → IfErr r (IsCauseOfTwo texts name other as_written IsCheckFault)
    check_causes (Ok x) h = tt
    check_causes (Err e) h = check_cause e h

    eval_cause : (e : Fault) → IsEvalFault spec t e → IsCauseOfTwo texts name other as_written IsEvalFault e
    eval_cause Formulas h = of_other IsEvalFault Formulas h
    eval_cause (Line l) h = of_other IsEvalFault (Line l) h
    eval_cause Memory h = tt
    eval_cause Covers h = absurd h
    eval_cause States h = absurd h
    eval_cause (Gap s) h = absurd h
    eval_cause (NotFirst s) h = absurd h
    eval_cause Unwritten h = absurd h
    eval_cause Usage h = absurd h
    eval_cause (Unread s) h = absurd h
    eval_cause (Text what place) h = absurd h
    eval_cause (Length s) h = absurd h

    pub eval_causes : {T : Type 0} (r : Result T Fault) → IfErr r (IsEvalFault spec t) → IfErr r (IsCauseOfTwo texts name other as_written IsEvalFault)
    eval_causes (Ok x) h = tt
    eval_causes (Err e) h = eval_cause e h

-- an answer for every number of workers
pub each_answer : {T W : Type 0} (r : Result T Fault) (P : T → W → Type 0) → ((w : W) → IfOk r (λ a. P a w)) → IfOk r (λ a. (w : W) → P a w)
each_answer (Ok a) P h = h
each_answer (Err e) P h = tt
