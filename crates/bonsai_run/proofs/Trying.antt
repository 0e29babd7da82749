-- What is known while bound after bound is tried.
use Rattle.std.proofs.Common.{◌≡◌, ℕ, ◌+◌, ◌<◌, ◌≤◌, Bool, true, false, nat_lt, Some, None, inl, inr, refl, sym, ◌∙◌, ap, subst, arith}
use borrow.Author.Tests.{ltb-true, ltb-false}
use Rattle.word_core.specs.declared.names.Names.{Names}
use Rattle.word_core.specs.declared.names.Player.{Player}
use Rattle.word_core.specs.declared.names.Player.TheVariants.{System, Environment}
use Rattle.word_core.specs.Machine.{MachineData}
use Rattle.word_core.specs.Run.{Keeps}
use Rattle.word_core.specs.declared.names.Kind.{Kind}
use Rattle.word_core.specs.declared.names.Kind.TheVariants.{First, Second}
use Rattle.game_form.specs.Covering.{covering_of, CoversLetters}
use Rattle.game_form.specs.Game.{GameData}
use Rattle.game_form.specs.Letters.{letters_of, HasLetters}
use Rattle.strategy_play.specs.Ordered.{order_of, IsInOrder}
use Rattle.dual_game.specs.declared.bounds.Bounds.{Bounds}
use Rattle.dual_game.specs.declared.games.Pair.{Pair}
use Rattle.dual_game.specs.Bounds.{AreBounds, IsTried, tried_after}
use Rattle.dual_game.specs.Machines.{IsMachineOfWhole, SharesMachine}
use Rattle.dual_game.specs.Winning.{IsMachineFor, NobodyWins, automaton_of, with_bound, Decides}
use Rattle.dual_game.proofs.Tried.{tried_first, tried_next, tried_low, none_between, none_before, after_last}
use Rattle.bonsai_run.specs.declared.verdicts.Starts.{Starts}
use Rattle.bonsai_run.specs.declared.verdicts.Verdict.TheVariants.{Won, Unknown}
use Rattle.bonsai_run.specs.Answers.{IsVerdict}
use Rattle.bonsai_run.specs.Turns.{AreStarts}
use Rattle.game_core.specs.Start.{raised_by}
use Rattle.bonsai_run.specs.Winners.{IsWinner, IsLost, IsFoundOfTwo}

-- the bound is one of those tried, and nobody wins at an earlier one
pub record Trying (b : Bounds) (system environment : GameData) (bound : ℕ) : Type 0 where
  pub tried : IsTried b bound
  pub before : (pair : Pair) (names : Names) → Decides pair.system names System system → Decides pair.environment names Environment environment
      → (k : ℕ) → IsTried b k → k < bound → NobodyWins pair names k

pub trying_first : (b : Bounds) (system environment : GameData) → AreBounds b → Trying b system environment b.first
trying_first b system environment are = record {
  tried = tried_first b are;
  before = λ pair names s e k tried less. absurd (none (none_before b k are tried) less);
}
  where
    none : {k : ℕ} → b.first ≤ k → k < b.first → ⊥
    none le less = omega arith

module _ (b : Bounds) (system environment : GameData) (bound : ℕ) (trying : Trying b system environment bound) (small : b.last ≤ 10000)
    (g h : GameData) (g_is : g ≡ with_bound bound system) (h_is : h ≡ with_bound bound environment) where
  low : bound ≤ 10000
  low = omega (arith, tried_low b bound trying.tried, small)

  won : (pair : Pair) (names : Names) (who : Player) (m : MachineData) → IsMachineFor names who m × Keeps (automaton_of pair who) m bound
      → IsMachineFor names m.player m × Keeps (automaton_of pair m.player) m bound
  won pair names who m w = subst (λ p. IsMachineFor names p m × Keeps (automaton_of pair p) m bound) (sym w.0.player) w

  of_whole : (pair : Pair) (names : Names) (who : Player) (m : MachineData) → m.player ≡ who → IsMachineOfWhole (automaton_of pair who) names who bound m.states
      → IsMachineOfWhole (automaton_of pair m.player) names m.player bound m.states
  of_whole pair names who m is = subst (λ p. IsMachineOfWhole (automaton_of pair p) names p bound m.states) (sym is)

  pub wins : (m : MachineData) → IsFoundOfTwo g h (Some m) → (pair : Pair) (names : Names) → Decides pair.system names System system → Decides pair.environment names Environment environment
      → SharesMachine pair.system names System system → SharesMachine pair.environment names Environment environment → IsVerdict pair names b (Won bound m)
  wins m (inl w) pair names s e system_shares environment_shares =
      let k = subst (λ g. IsWinner g m) g_is w in
      let kept = s.sound bound m low k.0 k.1 in
      let r = won pair names System m kept in
      (trying.tried, trying.before pair names s e, r.0, r.1, of_whole pair names System m kept.0.player (system_shares bound m.states low k.2))
  wins m (inr w) pair names s e system_shares environment_shares =
      let k = subst (λ g. IsWinner g m) h_is w in
      let kept = e.sound bound m low k.0 k.1 in
      let r = won pair names Environment m kept in
      (trying.tried, trying.before pair names s e, r.0, r.1, of_whole pair names Environment m kept.0.player (environment_shares bound m.states low k.2))

  nobody : IsFoundOfTwo g h None → (pair : Pair) (names : Names) → Decides pair.system names System system → Decides pair.environment names Environment environment → NobodyWins pair names bound
  nobody lost pair names s e System wins = subst IsLost g_is lost.0 (s.exact bound low wins)
  nobody lost pair names s e Environment wins = subst IsLost h_is lost.1 (e.exact bound low wins)

  -- up to the bound nobody wins
  so_far : IsFoundOfTwo g h None → (pair : Pair) (names : Names) → Decides pair.system names System system → Decides pair.environment names Environment environment
      → (k : ℕ) → IsTried b k → k ≤ bound → NobodyWins pair names k
  so_far lost pair names s e k tried le = by (nat_lt k bound) refl
    where
      by : (c : Bool) → nat_lt k bound ≡ c → NobodyWins pair names k
      by true l = trying.before pair names s e k tried (ltb-true k bound l)
      by false l =
          let same : bound ≡ k = omega (arith, ltb-false k bound l, le) in
          subst (NobodyWins pair names) same (nobody lost pair names s e)

  pub goes_on : AreBounds b → (n : ℕ) → IsFoundOfTwo g h None → tried_after b bound ≡ Some n → Trying b system environment n
  goes_on are n lost next = record {
    tried = tried_next b bound n trying.tried next;
    before = λ pair names s e k tried less. so_far lost pair names s e k tried (none_between b bound n k are trying.tried next tried less);
  }

  pub ends : IsFoundOfTwo g h None → tried_after b bound ≡ None → (pair : Pair) (names : Names) → Decides pair.system names System system → Decides pair.environment names Environment environment
      → IsVerdict pair names b (Unknown bound)
  ends lost last pair names s e =
      let is : bound ≡ b.last = after_last b bound last in
      (is, λ k tried. so_far lost pair names s e k tried (subst (λ n. k ≤ n) (sym is) (tried_low b k tried)))

-- what a game is solved from at the next bound
raised_to : (g system : GameData) (bound n by : ℕ) → g ≡ with_bound bound system → bound + by ≡ n → raised_by by g ≡ with_bound n system
raised_to g system bound n by is e = ap (raised_by by) is ∙ ap (λ k. with_bound k system) e

pub starts_at : (g h g' h' system environment : GameData) (bound n by : ℕ) (s : Starts) → g ≡ with_bound bound system → h ≡ with_bound bound environment
    → g' ≡ with_bound n system → h' ≡ with_bound n environment → bound + by ≡ n → AreStarts (raised_by by g) (raised_by by h) s → AreStarts g' h' s
starts_at g h g' h' system environment bound n by s g_is h_is g_new h_new e starts =
    subst (λ x. AreStarts x h' s) (raised_to g system bound n by g_is e ∙ sym g_new)
    (subst (λ x. AreStarts (raised_by by g) x s) (raised_to h environment bound n by h_is e ∙ sym h_new) starts)

-- the letters of a game don't depend on its bound
letters_of_kind : (kind : Kind) (g : GameData) (k : ℕ) → letters_of kind g → letters_of kind (with_bound k g)
letters_of_kind First g k h = h
letters_of_kind Second g k h = h

covering_of_kind : (kind : Kind) (g : GameData) (k : ℕ) → covering_of kind g → covering_of kind (with_bound k g)
covering_of_kind First g k h = h
covering_of_kind Second g k h = h

order_of_kind : (kind : Kind) (g : GameData) (k : ℕ) → order_of kind g → order_of kind (with_bound k g)
order_of_kind First g k h = h
order_of_kind Second g k h = h

pub in_order : (g h : GameData) (k : ℕ) → h ≡ with_bound k g → IsInOrder g → IsInOrder h
in_order g h k is order = subst IsInOrder (sym is) (order_of_kind g.kind g k order)

pub has_letters : (g h : GameData) (k : ℕ) → h ≡ with_bound k g → HasLetters g → HasLetters h
has_letters g h k is letters = subst HasLetters (sym is) (letters_of_kind g.kind g k letters)

pub covers_letters : (g h : GameData) (k : ℕ) → h ≡ with_bound k g → CoversLetters g → CoversLetters h
covers_letters g h k is covers = subst CoversLetters (sym is) (covering_of_kind g.kind g k covers)
