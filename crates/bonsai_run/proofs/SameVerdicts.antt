-- A verdict on one reading of a specification is one on each.
use Rattle.std.proofs.Common.{◌≡◌, ℕ, ◌≤◌, ◌++◌, arith, Bool, List, codes, length, string_bytes, refl, sym, ap, ◌∙◌}
use Rattle.std.proofs.lemmas.List.{length-append, length-map}
use Rattle.word_core.specs.declared.machines.Line.{Line}
use Rattle.word_core.specs.declared.names.Player.{Player}
use Rattle.word_core.specs.declared.names.Player.TheVariants.{System, Environment}
use Rattle.word_core.specs.Automaton.{AutomatonData}
use Rattle.word_core.specs.Machine.{MachineData}
use Rattle.tlsf_basic.specs.declared.specifications.Spec.{Spec}
use Rattle.tlsf_basic.specs.Laws.{IsSameSpec}
use Rattle.tlsf_basic.specs.Signals.{inputs_of, outputs_of, name_of}
use Rattle.tlsf_basic.specs.Specification.{IsSpec, signal_count}
use Rattle.dual_game.specs.declared.bounds.Bounds.{Bounds}
use Rattle.dual_game.specs.declared.games.Pair.{Pair}
use Rattle.dual_game.specs.Automata.{IsPairOf}
use Rattle.dual_game.specs.Games.{kind_of}
use Rattle.dual_game.specs.Machines.{IsMachineOfWhole}
use Rattle.dual_game.specs.Winning.{IsMachineFor, NobodyWins, automaton_of}
use Rattle.bonsai_run.specs.declared.verdicts.Verdict.{Verdict}
use Rattle.bonsai_run.specs.declared.verdicts.Verdict.TheVariants.{Won, Unknown}
use Rattle.bonsai_run.specs.Answers.{IsVerdict, bound_line, verdict_text, verdict_word}
use Rattle.bonsai_run.proofs.SameSpecs.{automaton_same, inputs_same, outputs_same, text_same}

pub few_signals : (text : List ℕ) (as_written : Bool) (spec : Spec) → IsSpec text as_written spec → signal_count spec.names ≤ 40
few_signals text as_written spec is = omega (arith, is.few, inputs, outputs, length-append (inputs_of is.lexemes) (outputs_of is.lexemes))
  where
    inputs : length spec.names.inputs.items ≡ length (inputs_of is.lexemes)
    inputs = sym (length-map spec.names.inputs.items string_bytes) ∙ ap length is.inputs ∙ length-map (inputs_of is.lexemes) (name_of text)

    outputs : length spec.names.outputs.items ≡ length (outputs_of is.lexemes)
    outputs = sym (length-map spec.names.outputs.items string_bytes) ∙ ap length is.outputs ∙ length-map (outputs_of is.lexemes) (name_of text)

machine_for_same : (s t : Spec) → IsSameSpec s t → (who : Player) (m : MachineData) → IsMachineFor s.names who m → IsMachineFor t.names who m
machine_for_same s t same who m h = record {
  machine = h.machine;
  player = h.player;
  kind = h.kind ∙ ap (kind_of who) same.2;
  inputs = h.inputs ∙ inputs_same s t same;
  outputs = h.outputs ∙ outputs_same s t same;
}

module _ (s t : Spec) (same : IsSameSpec s t) where
  back : IsSameSpec t s
  back = (sym same.0, sym same.1, sym same.2, sym same.3)

  nobody_same : (pair : Pair) (k : ℕ) → NobodyWins pair s.names k → NobodyWins pair t.names k
  nobody_same pair k h who w = h who (record { machine = w.machine; fits = machine_for_same t s back who w.machine w.fits; keeps = w.keeps })

  whole_same : (a : AutomatonData) (who : Player) (k : ℕ) (states : List (List Line)) → IsMachineOfWhole a s.names who k states → IsMachineOfWhole a t.names who k states
  whole_same a who k states h g c =
      h g
      (record {
        game = c.game;
        player = c.player;
        kind = c.kind ∙ ap (kind_of who) (sym same.2);
        inputs = c.inputs ∙ sym (inputs_same s t same);
        outputs = c.outputs ∙ sym (outputs_same s t same);
        bound = c.bound;
        init = c.init;
        lanes = c.lanes;
        rows = c.rows;
      })

  pub pair_same : (pair : Pair) → IsPairOf s pair → IsPairOf t pair
  pair_same pair h = record { system = automaton_same s t same System pair.system h.system; environment = automaton_same s t same Environment pair.environment h.environment }

  pub verdict_same : (pair : Pair) (b : Bounds) (v : Verdict) → IsVerdict pair s.names b v → IsVerdict pair t.names b v
  verdict_same pair b (Won k m) h = (
    h.0,
    λ j tried less. nobody_same pair j (h.1 j tried less),
    machine_for_same s t same m.player m h.2,
    h.3,
    whole_same (automaton_of pair m.player) m.player k m.states h.4,
  )
  verdict_same pair b (Unknown k) h = (h.0, λ j tried. nobody_same pair j (h.1 j tried))

  pub verdict_text_same : (v : Verdict) → verdict_text s.names v ≡ verdict_text t.names v
  verdict_text_same (Won k m) = ap (λ x. verdict_word m.player ++ codes "\n" ++ bound_line k ++ x) (text_same s t same m)
  verdict_text_same (Unknown k) = refl
