-- Each order has one answer.
use Rattle.std.proofs.Common.{◌≡◌, ℕ, ◌≤◌, ◌++◌, ◌⊎◌, inl, inr, ℤ, arith, Bool, true, false, List, Some, codes, refl, sym, ap, ◌∙◌, subst}
use Rattle.antichain_list.specs.Antichain.{IsAntichain}
use Rattle.counter_vec.specs.Counters.{at_or_below, lexicographic}
use Rattle.shelf_io.specs.Texts.{Texts}
use Rattle.word_core.specs.declared.names.Player.{Player}
use Rattle.word_core.specs.Automaton.{AutomatonData}
use Rattle.word_core.specs.Lasso.{LassoData}
use Rattle.word_core.specs.Machine.{MachineData}
use Rattle.word_core.specs.Run.{Keeps}
use Rattle.machine_text.specs.Lassos.{IsLasso, lasso_text}
use Rattle.machine_text.specs.Machines.{Spells}
use Rattle.machine_text.proofs.BackLaws.{machines_same}
use Rattle.machine_text.proofs.LassoLaws.{lassos_same}
use Rattle.ltl_form.specs.Meaning.{holds_at}
use Rattle.tlsf_basic.specs.declared.specifications.Spec.{Spec}
use Rattle.tlsf_basic.specs.Laws.{IsSameSpec}
use Rattle.tlsf_basic.specs.Specification.{IsSpec, signal_count}
use Rattle.tlsf_basic.proofs.OneAnswer.{one_answer}
use Rattle.spec_gen.specs.Arbiter.{arbiter_text}
use Rattle.game_form.specs.Game.{GameData, IsGame, lanes}
use Rattle.game_form.specs.Held.{HasHeld}
use Rattle.dual_game.specs.declared.bounds.Bounds.{Bounds}
use Rattle.dual_game.specs.declared.games.Pair.{Pair}
use Rattle.dual_game.specs.Automata.{IsAutomatonOf, IsPairOf}
use Rattle.dual_game.specs.Games.{IsGameOf}
use Rattle.dual_game.proofs.OneAutomaton.{automaton_is_one}
use Rattle.dual_game.proofs.OneList.{held_list_is_one}
use Rattle.dual_game.proofs.SameGames.{list_same}
use Rattle.bonsai_words.specs.Ordered.Asked.{synth, downset, check, eval, gen}
use Rattle.bonsai_run.specs.declared.verdicts.Verdict.{Verdict}
use Rattle.bonsai_run.specs.Answers.{IsAnswer, IsVerdict, bounds_of, downset_text, verdict_comment, verdict_of, verdict_text}
use Rattle.bonsai_run.specs.Answers.IsAnswer.{decided, held, valid, over, holds, fails, generated}
use Rattle.bonsai_run.specs.Laws.{AnswerIsOne}
use Rattle.bonsai_run.specs.Texts.{IsSpecOf, IsLassoOf, IsMachineIn}
use Rattle.bonsai_run.proofs.Completing.{one_spec, one_text}
use Rattle.bonsai_run.proofs.OneVerdict.{verdict_is_one}
use Rattle.bonsai_run.proofs.SameVerdicts.{few_signals, pair_same, verdict_same, verdict_text_same}
use Rattle.bonsai_run.proofs.SameSpecs.{automaton_same, count_same, inputs_same, inputs_whole, outputs_same, outputs_whole, spells_same}

-- one automaton for two readings of a specification
one_automaton : (s t : Spec) → IsSameSpec s t → (who : Player) (a b : AutomatonData) → IsAutomatonOf s who a → IsAutomatonOf t who b → a ≡ b
one_automaton s t same who a b is also = (automaton_is_one t who).one a b (automaton_same s t same who a is) also

-- ---- what is checked

record IsChecked (told : Texts) (name machine : List ℕ) (bound : ℕ) (as_written : Bool) (status : ℕ) (text : List ℕ) : Type 0 where
  spec : Spec
  m : MachineData
  a : AutomatonData
  of : IsSpecOf (Some told) name as_written spec
  spelt : IsMachineIn (Some told) machine spec m
  made : IsAutomatonOf spec m.player a
  how : (Keeps a m bound × (status ≡ 0) × (text ≡ codes "VALID\n")) ⊎ ((Keeps a m bound → ⊥) × (status ≡ 40) × (text ≡ codes "OVER\n"))

checked : (told : Texts) (name machine : List ℕ) (bound : ℕ) (as_written : Bool) (s : ℕ) (t : List ℕ) → IsAnswer (Some told) (check name machine bound as_written) s t → IsChecked told name machine bound as_written s t
checked told name machine bound as_written s t (valid name' machine' bound' as_written' spec m a of spelt made keeps avoids) = record { spec = spec; m = m; a = a; of = of; spelt = spelt; made = made; how = inl (keeps, refl, refl) }
checked told name machine bound as_written s t (over name' machine' bound' as_written' spec m a of spelt made not) = record { spec = spec; m = m; a = a; of = of; spelt = spelt; made = made; how = inr (not, refl, refl) }

one_check : (told : Texts) (name machine : List ℕ) (bound : ℕ) (as_written : Bool) (s n : ℕ) (t u : List ℕ) → IsChecked told name machine bound as_written s t → IsChecked told name machine bound as_written n u → (s ≡ n) × (t ≡ u)
one_check told name machine bound as_written s n t u x y = by x.how y.how
  where
    same : IsSameSpec x.spec y.spec
    same = one_spec told name as_written x.spec y.spec x.of y.of

    machines : x.m ≡ y.m
    machines =
        machines_same y.spec.names y.spelt.text x.m y.m (inputs_whole y.of.text as_written y.spec y.of.is) (outputs_whole y.of.text as_written y.spec y.of.is)
        (subst (λ b. Spells y.spec.names b x.m) (one_text told machine x.spelt.text y.spelt.text x.spelt.under y.spelt.under) (spells_same x.spec y.spec same x.spelt.text x.m x.spelt.spells)) y.spelt.spells

    automata : x.a ≡ y.a
    automata = one_automaton x.spec y.spec same x.m.player x.a y.a x.made (subst (λ (m : MachineData). IsAutomatonOf y.spec m.player y.a) (sym machines) y.made)

    there : Keeps x.a x.m bound → Keeps y.a y.m bound
    there keeps = subst (λ b. Keeps b y.m bound) automata (subst (λ m. Keeps x.a m bound) machines keeps)

    here : Keeps y.a y.m bound → Keeps x.a x.m bound
    here keeps = subst (λ b. Keeps b x.m bound) (sym automata) (subst (λ m. Keeps y.a m bound) (sym machines) keeps)

    by : (Keeps x.a x.m bound × (s ≡ 0) × (t ≡ codes "VALID\n")) ⊎ ((Keeps x.a x.m bound → ⊥) × (s ≡ 40) × (t ≡ codes "OVER\n"))
        → (Keeps y.a y.m bound × (n ≡ 0) × (u ≡ codes "VALID\n")) ⊎ ((Keeps y.a y.m bound → ⊥) × (n ≡ 40) × (u ≡ codes "OVER\n"))
        → (s ≡ n) × (t ≡ u)
    by (inl h) (inl k) = (h.1 ∙ sym k.1, h.2 ∙ sym k.2)
    by (inl h) (inr k) = absurd (k.0 (there h.0))
    by (inr h) (inl k) = absurd (h.0 (here k.0))
    by (inr h) (inr k) = (h.1 ∙ sym k.1, h.2 ∙ sym k.2)

-- ---- what is evaluated

abbrev truth_status : Bool → ℕ
truth_status true = 0
truth_status false = 40

abbrev truth_text : Bool → List ℕ
truth_text true = codes "HOLDS\n"
truth_text false = codes "FAILS\n"

record IsEvaluated (told : Texts) (name lasso : List ℕ) (as_written : Bool) (status : ℕ) (text : List ℕ) : Type 0 where
  spec : Spec
  w : LassoData
  of : IsSpecOf (Some told) name as_written spec
  spelt : IsLassoOf (Some told) lasso spec w
  status_is : status ≡ truth_status (holds_at w spec.formula 0)
  text_is : text ≡ truth_text (holds_at w spec.formula 0)

evaluated : (told : Texts) (name lasso : List ℕ) (as_written : Bool) (s : ℕ) (t : List ℕ) → IsAnswer (Some told) (eval name lasso as_written) s t → IsEvaluated told name lasso as_written s t
evaluated told name lasso as_written s t (holds name' lasso' as_written' spec w of spelt few is) = record { spec = spec; w = w; of = of; spelt = spelt; status_is = ap truth_status (sym is); text_is = ap truth_text (sym is) }
evaluated told name lasso as_written s t (fails name' lasso' as_written' spec w of spelt few is) = record { spec = spec; w = w; of = of; spelt = spelt; status_is = ap truth_status (sym is); text_is = ap truth_text (sym is) }

one_eval : (told : Texts) (name lasso : List ℕ) (as_written : Bool) (s n : ℕ) (t u : List ℕ) → IsEvaluated told name lasso as_written s t → IsEvaluated told name lasso as_written n u → (s ≡ n) × (t ≡ u)
one_eval told name lasso as_written s n t u x y = (x.status_is ∙ ap truth_status truth ∙ sym y.status_is, x.text_is ∙ ap truth_text truth ∙ sym y.text_is)
  where
    same : IsSameSpec x.spec y.spec
    same = one_spec told name as_written x.spec y.spec x.of y.of

    count : signal_count x.spec.names ≡ signal_count y.spec.names
    count = count_same x.spec y.spec same

    lassos : x.w ≡ y.w
    lassos =
        lassos_same (signal_count y.spec.names) y.spelt.text x.w y.w (subst (λ n. IsLasso n x.w) count x.spelt.is) y.spelt.is
        (one_text told lasso y.spelt.text x.spelt.text y.spelt.under x.spelt.under ∙ x.spelt.spells ∙ ap (λ n. lasso_text n x.w) count) y.spelt.spells

    truth : holds_at x.w x.spec.formula 0 ≡ holds_at y.w y.spec.formula 0
    truth = ap (λ w. holds_at w x.spec.formula 0) lassos ∙ ap (λ f. holds_at y.w f 0) same.3

-- ---- what is held

record IsListed (told : Texts) (name : List ℕ) (player : Player) (bound : ℕ) (as_written : Bool) (status : ℕ) (text : List ℕ) : Type 0 where
  spec : Spec
  a : AutomatonData
  g : GameData
  vectors : List (List ℤ)
  of : IsSpecOf (Some told) name as_written spec
  made : IsAutomatonOf spec player a
  game : IsGame g
  played : IsGameOf a spec.names player bound g
  all : HasHeld g vectors
  ascending : IsAntichain at_or_below lexicographic vectors
  status_is : status ≡ 0
  text_is : text ≡ downset_text player bound (lanes g) vectors

listed : (told : Texts) (name : List ℕ) (player : Player) (bound : ℕ) (as_written : Bool) (s : ℕ) (t : List ℕ) → IsAnswer (Some told) (downset name player bound as_written) s t → IsListed told name player bound as_written s t
listed told name player bound as_written s t (held name' player' bound' as_written' spec a g vectors of made game played all ascending) =
    record { spec = spec; a = a; g = g; vectors = vectors; of = of; made = made; game = game; played = played; all = all; ascending = ascending; status_is = refl; text_is = refl }

one_downset : (told : Texts) (name : List ℕ) (player : Player) (bound : ℕ) (as_written : Bool) (s n : ℕ) (t u : List ℕ) → IsListed told name player bound as_written s t → IsListed told name player bound as_written n u → (s ≡ n) × (t ≡ u)
one_downset told name player bound as_written s n t u x y =
    (x.status_is ∙ sym y.status_is, x.text_is ∙ ap (λ k. downset_text player bound k x.vectors) wide ∙ ap (downset_text player bound (lanes y.g)) lists ∙ sym y.text_is)
  where
    same : IsSameSpec x.spec y.spec
    same = one_spec told name as_written x.spec y.spec x.of y.of

    automata : x.a ≡ y.a
    automata = one_automaton x.spec y.spec same player x.a y.a x.made y.made

    played : IsGameOf y.a x.spec.names player bound x.g
    played = subst (λ a. IsGameOf a x.spec.names player bound x.g) automata x.played

    wide : lanes x.g ≡ lanes y.g
    wide = played.lanes ∙ sym y.played.lanes

    all : HasHeld y.g x.vectors
    all =
        list_same y.a y.made.well x.spec.names y.spec.names player bound x.g y.g same.2 (inputs_same x.spec y.spec same) (outputs_same x.spec y.spec same) x.game y.game played y.played x.vectors x.all

    lists : x.vectors ≡ y.vectors
    lists = held_list_is_one y.g x.vectors y.vectors all y.all x.ascending y.ascending

-- ---- what is decided

-- one verdict for two readings of a specification
one_verdict : (s t : Spec) → IsSameSpec s t → signal_count t.names ≤ 40 → (b : Bounds) → b.last ≤ 10000 → (pair again : Pair) (v w : Verdict) → IsPairOf s pair → IsPairOf t again
    → IsVerdict pair s.names b v → IsVerdict again t.names b w → v ≡ w
one_verdict s t same few b low pair again v w is also verdict other = verdict_is_one t pair again b v w few low (pair_same s t same pair is) also (verdict_same s t same pair b v verdict) other

record IsDecided (told : Texts) (name : List ℕ) (bounds : ℕ × ℕ × ℕ) (as_written : Bool) (status : ℕ) (text : List ℕ) : Type 0 where
  spec : Spec
  pair : Pair
  v : Verdict
  of : IsSpecOf (Some told) name as_written spec
  made : IsPairOf spec pair
  verdict : IsVerdict pair spec.names (bounds_of bounds) v
  status_is : status ≡ verdict_of v
  text_is : text ≡ verdict_text spec.names v

decided_by : (told : Texts) (name : List ℕ) (bounds : ℕ × ℕ × ℕ) (workers : ℕ) (as_written : Bool) (s : ℕ) (t : List ℕ) → IsAnswer (Some told) (synth name bounds workers as_written) s t → IsDecided told name bounds as_written s t
decided_by told name bounds workers as_written s t (decided name' bounds' workers' as_written' spec pair v of made verdict satisfied alone) =
    record { spec = spec; pair = pair; v = v; of = of; made = made; verdict = verdict; status_is = refl; text_is = refl }

one_synth : (told : Texts) (name : List ℕ) (bounds : ℕ × ℕ × ℕ) (as_written : Bool) → bounds.2 ≤ 10000 → (s n : ℕ) (t u : List ℕ) → IsDecided told name bounds as_written s t → IsDecided told name bounds as_written n u → (s ≡ n) × (t ≡ u)
one_synth told name bounds as_written low s n t u x y =
    (x.status_is ∙ ap verdict_of verdicts ∙ sym y.status_is, x.text_is ∙ verdict_text_same x.spec y.spec same x.v ∙ ap (verdict_text y.spec.names) verdicts ∙ sym y.text_is)
  where
    same : IsSameSpec x.spec y.spec
    same = one_spec told name as_written x.spec y.spec x.of y.of

    verdicts : x.v ≡ y.v
    verdicts =
        one_verdict x.spec y.spec same (few_signals y.of.text as_written y.spec y.of.is) (bounds_of bounds) low x.pair y.pair x.v y.v x.made y.made x.verdict y.verdict

-- ---- what is generated

record IsGenerated (clients : ℕ) (status : ℕ) (text : List ℕ) : Type 0 where
  spec : Spec
  pair : Pair
  v : Verdict
  is : IsSpec (arbiter_text clients) false spec
  made : IsPairOf spec pair
  verdict : IsVerdict pair spec.names (bounds_of (0, 1, 8)) v
  status_is : status ≡ 0
  text_is : text ≡ arbiter_text clients ++ verdict_comment v

generated_by : (told : Texts) (clients workers : ℕ) (s : ℕ) (t : List ℕ) → IsAnswer (Some told) (gen clients workers) s t → IsGenerated clients s t
generated_by told clients workers s t (generated clients' workers' spec pair v is formula made verdict satisfied alone) =
    record { spec = spec; pair = pair; v = v; is = is; made = made; verdict = verdict; status_is = refl; text_is = refl }

one_gen : (clients s n : ℕ) (t u : List ℕ) → IsGenerated clients s t → IsGenerated clients n u → (s ≡ n) × (t ≡ u)
one_gen clients s n t u x y = (x.status_is ∙ sym y.status_is, x.text_is ∙ ap (λ v. arbiter_text clients ++ verdict_comment v) verdicts ∙ sym y.text_is)
  where
    same : IsSameSpec x.spec y.spec
    same = (one_answer (arbiter_text clients) false).1 x.spec y.spec x.is y.is

    verdicts : x.v ≡ y.v
    verdicts =
        one_verdict x.spec y.spec same (few_signals (arbiter_text clients) false y.spec y.is) (bounds_of (0, 1, 8)) (omega arith) x.pair y.pair x.v y.v x.made y.made x.verdict y.verdict

pub answer_is_one : (told : Texts) → AnswerIsOne told
answer_is_one told = record {
  decided = λ name bounds workers as_written low s n t u x y.
      one_synth told name bounds as_written low s n t u (decided_by told name bounds workers as_written s t x) (decided_by told name bounds workers as_written n u y);
  generated = λ clients workers s n t u x y. one_gen clients s n t u (generated_by told clients workers s t x) (generated_by told clients workers n u y);
  held = λ name player bound as_written s n t u x y.
      one_downset told name player bound as_written s n t u (listed told name player bound as_written s t x) (listed told name player bound as_written n u y);
  checked = λ name machine bound as_written s n t u x y.
      one_check told name machine bound as_written s n t u (checked told name machine bound as_written s t x) (checked told name machine bound as_written n u y);
  evaluated = λ name lasso as_written s n t u x y.
      one_eval told name lasso as_written s n t u (evaluated told name lasso as_written s t x) (evaluated told name lasso as_written n u y);
}
