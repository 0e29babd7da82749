-- What a verdict on automata says of the formula.
use Rattle.std.proofs.Common.{◌≡◌, ℕ, ◌<◌, Bool, true, false, not, length, refl, ap}
use Rattle.tlsf_basic.specs.declared.specifications.Spec.{Spec}
use Rattle.ltl_form.specs.Meaning.{holds_at}
use Rattle.word_core.specs.declared.names.Names.{Names}
use Rattle.word_core.specs.declared.names.Player.{Player}
use Rattle.word_core.specs.declared.names.Player.TheVariants.{System, Environment}
use Rattle.word_core.specs.Automaton.{AutomatonData}
use Rattle.word_core.specs.Lasso.{LassoData}
use Rattle.word_core.specs.Machine.{MachineData}
use Rattle.word_core.specs.Play.{IsLassoPlay}
use Rattle.word_core.specs.Run.{Keeps}
use Rattle.dual_game.specs.declared.bounds.Bounds.{Bounds}
use Rattle.dual_game.specs.declared.games.Pair.{Pair}
use Rattle.dual_game.specs.Automata.{avoided, IsAutomatonOf, IsPairOf}
use Rattle.dual_game.specs.Winning.{IsMachineFor, Wins, AreOpposed, automaton_of}
use Rattle.dual_game.proofs.OneWinner.{kept_is_refused, only_one_wins}
use Rattle.bonsai_run.specs.declared.verdicts.Verdict.{Verdict}
use Rattle.bonsai_run.specs.declared.verdicts.Verdict.TheVariants.{Won, Unknown}
use Rattle.bonsai_run.specs.Answers.{IsVerdict, IsSatisfied, IsAlone, other_player}

false≢true : false ≡ true → ⊥
false≢true e = cc

of_player : (s : Spec) (pair : Pair) → IsPairOf s pair → (who : Player) → IsAutomatonOf s who (automaton_of pair who)
of_player s pair is System = is.system
of_player s pair is Environment = is.environment

-- what a machine keeps has no lasso that its player must avoid
pub kept_avoids : (s : Spec) (who : Player) (a : AutomatonData) (m : MachineData) (k : ℕ) → IsAutomatonOf s who a → Keeps a m k
    → (w : LassoData) → 0 < length w.cycle → IsLassoPlay m w → avoided who (holds_at w s.formula 0) ≡ false
kept_avoids s who a m k is keeps w some play = by (avoided who (holds_at w s.formula 0)) refl
  where
    by : (b : Bool) → avoided who (holds_at w s.formula 0) ≡ b → avoided who (holds_at w s.formula 0) ≡ false
    by true e = absurd (kept_is_refused a m w k keeps play ((is.accepts w some).1 e))
    by false e = e

pub satisfied : (s : Spec) (pair : Pair) (names : Names) (b : Bounds) (v : Verdict) → IsPairOf s pair → IsVerdict pair names b v → IsSatisfied s.formula v
satisfied s pair names b (Won bound machine) is verdict =
    kept_avoids s machine.player (automaton_of pair machine.player) machine bound (of_player s pair is machine.player) verdict.3
satisfied s pair names b (Unknown bound) is verdict = tt

opposed : (s : Spec) (pair : Pair) → IsPairOf s pair → AreOpposed pair.system pair.environment
opposed s pair is w some not_system not_environment = by (holds_at w s.formula 0) refl
  where
    by : (b : Bool) → holds_at w s.formula 0 ≡ b → ⊥
    by true e = not_environment ((is.environment.accepts w some).1 e)
    by false e = not_system ((is.system.accepts w some).1 (ap not e))

alone_of : (pair : Pair) (names : Names) (bound : ℕ) (m : MachineData) → AreOpposed pair.system pair.environment → (who : Player)
    → IsMachineFor names who m → Keeps (automaton_of pair who) m bound → (k : ℕ) → Wins (automaton_of pair (other_player who)) names (other_player who) k → ⊥
alone_of pair names bound m apart System fits keeps k other = only_one_wins pair names bound k apart (record { machine = m; fits = fits; keeps = keeps }) other
alone_of pair names bound m apart Environment fits keeps k other = only_one_wins pair names k bound apart other (record { machine = m; fits = fits; keeps = keeps })

pub alone : (s : Spec) (pair : Pair) (names : Names) (b : Bounds) (v : Verdict) → IsPairOf s pair → IsVerdict pair names b v → IsAlone pair names v
alone s pair names b (Won bound machine) is verdict = alone_of pair names bound machine (opposed s pair is) machine.player verdict.2 verdict.3
alone s pair names b (Unknown bound) is verdict = tt
