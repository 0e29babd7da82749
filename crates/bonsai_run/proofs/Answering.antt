-- What an answer is, from its status and its text.
use Rattle.std.proofs.Common.{◌≡◌, ℕ, ◌≤◌, ℤ, Bool, true, false, Option, List, ◌++◌, codes, length, refl, subst, sym, ap, ◌∙◌}
use Rattle.std.specs.Prelude.{◌↔◌, IsTrue}
use Rattle.word_core.specs.declared.names.Player.{Player}
use Rattle.word_core.specs.declared.names.Player.TheVariants.{Environment}
use Rattle.word_core.specs.Automaton.{AutomatonData}
use Rattle.word_core.specs.Lasso.{LassoData}
use Rattle.word_core.specs.Machine.{MachineData, IsMachine}
use Rattle.word_core.specs.Run.{Keeps}
use Rattle.shelf_io.specs.Texts.{Texts}
use Rattle.spec_gen.specs.Arbiter.{arbiter_text}
use Rattle.ltl_form.specs.Meaning.{holds_at}
use Rattle.tlsf_basic.specs.declared.specifications.Spec.{Spec}
use Rattle.tlsf_basic.specs.Specification.{IsSpec, signal_count}
use Rattle.machine_text.specs.Lassos.{IsLasso, lasso_text}
use Rattle.machine_text.specs.Machines.{Spells}
use Rattle.antichain_list.specs.Antichain.{IsAntichain}
use Rattle.counter_vec.specs.Counters.{at_or_below, lexicographic}
use Rattle.game_form.specs.Game.{GameData, IsGame, lanes}
use Rattle.game_form.specs.Held.{HasHeld}
use Rattle.dual_game.specs.declared.games.Pair.{Pair}
use Rattle.dual_game.specs.Games.{IsGameOf}
use Rattle.dual_game.specs.Automata.{formula_count, IsAutomatonOf, IsPairOf}
use Rattle.bonsai_words.specs.Ordered.{Asked}
use Rattle.bonsai_words.specs.Ordered.Asked.{synth, downset, check, eval, gen}
use Rattle.bonsai_run.specs.declared.answers.Answer.{Answer}
use Rattle.bonsai_run.specs.declared.verdicts.Verdict.{Verdict}
use Rattle.bonsai_run.specs.Generated.{arbiter_formula}
use Rattle.bonsai_run.specs.Texts.{IsUnder, IsSpecOf, IsLassoOf, IsMachineIn}
use Rattle.bonsai_run.specs.Answers.{IsAnswer, IsWord, IsVerdict, bounds_of, verdict_of, verdict_text, verdict_comment, downset_text}
use Rattle.bonsai_run.proofs.Satisfied.{satisfied, alone, kept_avoids}
use Rattle.bonsai_run.specs.Answers.IsAnswer.{decided, held, valid, over, holds, fails, generated}

false≢true : false ≡ true → ⊥
false≢true e = cc

module _ (texts : Option Texts) where
  answer_as : (order : Asked) (s s' : ℕ) (t t' : List ℕ) → s ≡ s' → t ≡ t' → IsAnswer texts order s' t' → IsAnswer texts order s t
  answer_as order s s' t t' h k a = subst (λ x. IsAnswer texts order x t) (sym h) (subst (IsAnswer texts order s') (sym k) a)

  pub is_decided : (name : List ℕ) (bounds : ℕ × ℕ × ℕ) (workers : ℕ) (as_written : Bool) (spec : Spec) (pair : Pair) (v : Verdict) (s : ℕ) (t : List ℕ)
      → IsSpecOf texts name as_written spec → IsPairOf spec pair → IsVerdict pair spec.names (bounds_of bounds) v → s ≡ verdict_of v → t ≡ verdict_text spec.names v
      → IsAnswer texts (synth name bounds workers as_written) s t
  is_decided name bounds workers as_written spec pair v s t of are is h k =
      answer_as _ s _ t _ h k (decided name bounds workers as_written spec pair v of are is (satisfied spec pair spec.names (bounds_of bounds) v are is) (alone spec pair spec.names (bounds_of bounds) v are is))

  pub is_downset : (name : List ℕ) (player : Player) (bound : ℕ) (as_written : Bool) (spec : Spec) (a : AutomatonData) (g : GameData) (vectors : List (List ℤ)) (s : ℕ) (t : List ℕ)
      → IsSpecOf texts name as_written spec → IsAutomatonOf spec player a → IsGame g → IsGameOf a spec.names player bound g → HasHeld g vectors → IsAntichain at_or_below lexicographic vectors
      → s ≡ 0 → t ≡ downset_text player bound (lanes g) vectors
      → IsAnswer texts (downset name player bound as_written) s t
  is_downset name player bound as_written spec a g vectors s t of accepts game is all up h k = answer_as _ s _ t _ h k (held name player bound as_written spec a g vectors of accepts game is all up)

  pub is_valid : (name machine : List ℕ) (bound : ℕ) (as_written : Bool) (spec : Spec) (m : MachineData) (a : AutomatonData) (s : ℕ) (t : List ℕ)
      → IsSpecOf texts name as_written spec → IsMachineIn texts machine spec m → IsAutomatonOf spec m.player a → Keeps a m bound → s ≡ 0 → t ≡ codes "VALID" ++ codes "\n"
      → IsAnswer texts (check name machine bound as_written) s t
  is_valid name machine bound as_written spec m a s t of under accepts keeps h k =
      answer_as _ s _ t _ h k (valid name machine bound as_written spec m a of under accepts keeps (kept_avoids spec m.player a m bound accepts keeps))

  pub is_over : (name machine : List ℕ) (bound : ℕ) (as_written : Bool) (spec : Spec) (m : MachineData) (a : AutomatonData) (s : ℕ) (t : List ℕ)
      → IsSpecOf texts name as_written spec → IsMachineIn texts machine spec m → IsAutomatonOf spec m.player a → (Keeps a m bound → ⊥) → s ≡ 40 → t ≡ codes "OVER" ++ codes "\n"
      → IsAnswer texts (check name machine bound as_written) s t
  is_over name machine bound as_written spec m a s t of under accepts keeps h k = answer_as _ s _ t _ h k (over name machine bound as_written spec m a of under accepts keeps)

  pub is_holds : (name lasso : List ℕ) (as_written : Bool) (spec : Spec) (w : LassoData) (s : ℕ) (t : List ℕ)
      → IsSpecOf texts name as_written spec → IsLassoOf texts lasso spec w → formula_count spec Environment ≤ 512 → holds_at w spec.formula 0 ≡ true → s ≡ 0 → t ≡ codes "HOLDS" ++ codes "\n"
      → IsAnswer texts (eval name lasso as_written) s t
  is_holds name lasso as_written spec w s t of under few is h k = answer_as _ s _ t _ h k (holds name lasso as_written spec w of under few is)

  pub is_fails : (name lasso : List ℕ) (as_written : Bool) (spec : Spec) (w : LassoData) (s : ℕ) (t : List ℕ)
      → IsSpecOf texts name as_written spec → IsLassoOf texts lasso spec w → formula_count spec Environment ≤ 512 → holds_at w spec.formula 0 ≡ false → s ≡ 40 → t ≡ codes "FAILS" ++ codes "\n"
      → IsAnswer texts (eval name lasso as_written) s t
  is_fails name lasso as_written spec w s t of under few is h k = answer_as _ s _ t _ h k (fails name lasso as_written spec w of under few is)

  pub is_generated : (clients workers : ℕ) (spec : Spec) (pair : Pair) (v : Verdict) (s : ℕ) (t : List ℕ)
      → IsSpec (arbiter_text clients) false spec → spec.formula ≡ arbiter_formula clients → IsPairOf spec pair → IsVerdict pair spec.names (bounds_of (0, 1, 8)) v → s ≡ 0 → t ≡ arbiter_text clients ++ verdict_comment v
      → IsAnswer texts (gen clients workers) s t
  is_generated clients workers spec pair v s t of shows are is h k =
      answer_as _ s _ t _ h k (generated clients workers spec pair v of shows are is (satisfied spec pair spec.names (bounds_of (0, 1, 8)) v are is) (alone spec pair spec.names (bounds_of (0, 1, 8)) v are is))

  -- of a machine whose bound was kept or not
  pub is_checked : (name machine : List ℕ) (bound : ℕ) (as_written : Bool) (spec : Spec) (text : List ℕ) (m : MachineData) (a : AutomatonData) (kept : Bool) (answer : Answer)
      → IsSpecOf texts name as_written spec → IsUnder texts machine text → length text ≤ 1048576 → IsMachine m → Spells spec.names text m → IsAutomatonOf spec m.player a → IsTrue kept ↔ Keeps a m bound
      → (kept ≡ true → IsWord 0 (codes "VALID") answer) → (kept ≡ false → IsWord 40 (codes "OVER") answer)
      → IsAnswer texts (check name machine bound as_written) answer.status answer.text.items
  is_checked name machine bound as_written spec text m a true answer of under short is spells accepts keeps yes_word no_word =
      let w = yes_word refl in
      is_valid name machine bound as_written spec m a answer.status answer.text.items of (record { text = text; under = under; short = short; is = is; spells = spells }) accepts (keeps.0 refl) w.0 w.1
  is_checked name machine bound as_written spec text m a false answer of under short is spells accepts keeps yes_word no_word =
      let w = no_word refl in
      is_over name machine bound as_written spec m a answer.status answer.text.items of (record { text = text; under = under; short = short; is = is; spells = spells }) accepts (λ k. false≢true (keeps.1 k)) w.0 w.1

  -- of a formula that held or not
  pub is_evaluated : (name lasso : List ℕ) (as_written : Bool) (spec : Spec) (w : LassoData) (held : Bool) (answer : Answer)
      → IsSpecOf texts name as_written spec → IsLassoOf texts lasso spec w → formula_count spec Environment ≤ 512 → holds_at w spec.formula 0 ≡ held
      → (held ≡ true → IsWord 0 (codes "HOLDS") answer) → (held ≡ false → IsWord 40 (codes "FAILS") answer)
      → IsAnswer texts (eval name lasso as_written) answer.status answer.text.items
  is_evaluated name lasso as_written spec w true answer of under few is yes_word no_word =
      let v = yes_word refl in
      is_holds name lasso as_written spec w answer.status answer.text.items of under few is v.0 v.1
  is_evaluated name lasso as_written spec w false answer of under few is yes_word no_word =
      let v = no_word refl in
      is_fails name lasso as_written spec w answer.status answer.text.items of under few is v.0 v.1

  pub is_lasso : (lasso : List ℕ) (spec : Spec) (w : LassoData) (text : List ℕ) (signals : ℕ) → signals ≡ signal_count spec.names → IsLasso signals w × (text ≡ lasso_text signals w)
      → IsUnder texts lasso text → length text ≤ 1048576 → IsLassoOf texts lasso spec w
  is_lasso lasso spec w text signals same is under short = record {
    text = text;
    under = under;
    short = short;
    is = subst (λ n. IsLasso n w) same is.0;
    spells = is.1 ∙ ap (λ n. lasso_text n w) same;
  }
