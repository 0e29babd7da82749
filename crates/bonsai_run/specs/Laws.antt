-- What holds of every verdict and of every answer.
use Rattle.std.specs.Prelude.{◌≡◌, ℕ, ◌≤◌, Bool, List, Some}
use Rattle.shelf_io.specs.Texts.{Texts}
use Rattle.word_core.specs.declared.names.Player.{Player}
use Rattle.tlsf_basic.specs.declared.specifications.Spec.{Spec}
use Rattle.tlsf_basic.specs.Specification.{signal_count}
use Rattle.dual_game.specs.declared.bounds.Bounds.{Bounds}
use Rattle.dual_game.specs.declared.games.Pair.{Pair}
use Rattle.dual_game.specs.Automata.{IsPairOf}
use Rattle.bonsai_run.specs.declared.verdicts.Verdict.{Verdict}
use Rattle.bonsai_run.specs.declared.verdicts.Verdict.TheVariants.{Won, Unknown}
use Rattle.bonsai_words.specs.Ordered.{Asked}
use Rattle.bonsai_words.specs.Ordered.Asked.{synth, downset, check, eval, gen}
use Rattle.bonsai_run.specs.Answers.{IsAnswer, IsVerdict}

-- two verdicts with one bound and one player
abbrev pub AreAlike : Verdict → Verdict → Type 0
AreAlike (Won bound machine) (Won again other) = (bound ≡ again) × (machine.player ≡ other.player)
AreAlike (Unknown bound) (Unknown again) = bound ≡ again
AreAlike _ _ = ⊥

-- a specification has one bound and one player that wins there, or none
abbrev pub VerdictsAreAlike : Type 0
VerdictsAreAlike =
    (s : Spec) (pair again : Pair) (b : Bounds) (v w : Verdict) → IsPairOf s pair → IsPairOf s again → IsVerdict pair s.names b v → IsVerdict again s.names b w → AreAlike v w

-- with at most 40 signals and bounds up to 10,000 it has one verdict: one bound and one machine, or none
abbrev pub VerdictIsOne : Type 0
VerdictIsOne =
    (s : Spec) (pair again : Pair) (b : Bounds) (v w : Verdict) → signal_count s.names ≤ 40 → b.last ≤ 10000
    → IsPairOf s pair → IsPairOf s again → IsVerdict pair s.names b v → IsVerdict again s.names b w → v ≡ w

-- an order has one status and one text, where the shelf tells these texts
abbrev pub HasOneAnswer : Texts → Asked → Type 0
HasOneAnswer told order =
    (status other : ℕ) (text again : List ℕ) → IsAnswer (Some told) order status text → IsAnswer (Some told) order other again → (status ≡ other) × (text ≡ again)

-- each order has one answer, `synth` with bounds up to 10,000
pub record AnswerIsOne (told : Texts) : Type 0 where
  pub decided : (name : List ℕ) (bounds : ℕ × ℕ × ℕ) (workers : ℕ) (as_written : Bool) → bounds.2 ≤ 10000 → HasOneAnswer told (synth name bounds workers as_written)
  pub held : (name : List ℕ) (player : Player) (bound : ℕ) (as_written : Bool) → HasOneAnswer told (downset name player bound as_written)
  pub checked : (name machine : List ℕ) (bound : ℕ) (as_written : Bool) → HasOneAnswer told (check name machine bound as_written)
  pub evaluated : (name lasso : List ℕ) (as_written : Bool) → HasOneAnswer told (eval name lasso as_written)
  pub generated : (clients workers : ℕ) → HasOneAnswer told (gen clients workers)
