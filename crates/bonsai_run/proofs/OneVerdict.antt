-- A specification has one verdict.
use Rattle.std.proofs.Common.{◌≡◌, ℕ, ◌≤◌, Bool, true, false, nat_lt, List, refl, sym, ◌∙◌, ap, subst, arith}
use borrow.Author.Tests.{ltb-true, ltb-false}
use Rattle.tlsf_basic.specs.declared.specifications.Spec.{Spec}
use Rattle.word_core.specs.declared.names.Player.{Player}
use Rattle.word_core.specs.declared.names.Player.TheVariants.{System, Environment}
use Rattle.word_core.specs.declared.machines.Line.{Line}
use Rattle.word_core.specs.declared.names.Kind.{Kind}
use Rattle.word_core.specs.Automaton.{IsAutomaton}
use Rattle.word_core.specs.Machine.{MachineData}
use Rattle.tlsf_basic.specs.Specification.{signal_count}
use Rattle.dual_game.specs.Games.{kind_of}
use Rattle.dual_game.specs.Machines.{IsMachineOfWhole}
use Rattle.dual_game.proofs.OneWhole.{whole_machine_is_one}
use Rattle.dual_game.proofs.Tried.{tried_low}
use Rattle.dual_game.specs.declared.bounds.Bounds.{Bounds}
use Rattle.dual_game.specs.declared.games.Pair.{Pair}
use Rattle.dual_game.specs.Automata.{IsPairOf}
use Rattle.dual_game.specs.Winning.{Wins, automaton_of}
use Rattle.dual_game.proofs.OneAutomaton.{automaton_is_one}
use Rattle.bonsai_run.specs.declared.verdicts.Verdict.{Verdict}
use Rattle.bonsai_run.specs.declared.verdicts.Verdict.TheVariants.{Won, Unknown}
use Rattle.bonsai_run.specs.Answers.{IsVerdict, other_player}
use Rattle.bonsai_run.specs.Laws.{AreAlike, VerdictsAreAlike, VerdictIsOne}
use Rattle.bonsai_run.proofs.Satisfied.{alone}

module _ (s : Spec) (pair again : Pair) (is : IsPairOf s pair) (also : IsPairOf s again) where
  one_system : pair.system ≡ again.system
  one_system = (automaton_is_one s System).one pair.system again.system is.system also.system

  one_environment : pair.environment ≡ again.environment
  one_environment = (automaton_is_one s Environment).one pair.environment again.environment is.environment also.environment

  one_pair : pair ≡ again
  one_pair = ap (λ a. record pair { system = a }) one_system ∙ ap (λ a. record again { environment = a }) one_environment

module _ (s : Spec) (pair : Pair) (is : IsPairOf s pair) (b : Bounds) where
  wins : (k : ℕ) (m : MachineData) → IsVerdict pair s.names b (Won k m) → Wins (automaton_of pair m.player) s.names m.player k
  wins k m v = record { machine = m; fits = v.2; keeps = v.3 }

  one_bound : (k j : ℕ) (m n : MachineData) → IsVerdict pair s.names b (Won k m) → IsVerdict pair s.names b (Won j n) → k ≡ j
  one_bound k j m n v w = by (nat_lt k j) refl (nat_lt j k) refl
    where
      by : (c : Bool) → nat_lt k j ≡ c → (d : Bool) → nat_lt j k ≡ d → k ≡ j
      by true e d h = absurd (w.1 k v.0 (ltb-true k j e) m.player (wins k m v))
      by false e true h = absurd (v.1 j w.0 (ltb-true j k h) n.player (wins j n w))
      by false e false h = omega (arith, ltb-false k j e, ltb-false j k h)

  one_player : (k j : ℕ) (m n : MachineData) → IsVerdict pair s.names b (Won k m) → IsVerdict pair s.names b (Won j n) → m.player ≡ n.player
  one_player k j m n v w = by m.player refl n.player refl
    where
      against : n.player ≡ other_player m.player → ⊥
      against e = alone s pair s.names b (Won k m) is v j (subst (λ p. Wins (automaton_of pair p) s.names p j) e (wins j n w))

      by : (p : Player) → m.player ≡ p → (q : Player) → n.player ≡ q → m.player ≡ n.player
      by System e System h = e ∙ sym h
      by Environment e Environment h = e ∙ sym h
      by System e Environment h = absurd (against (h ∙ sym (ap other_player e)))
      by Environment e System h = absurd (against (h ∙ sym (ap other_player e)))

  alike : (v w : Verdict) → IsVerdict pair s.names b v → IsVerdict pair s.names b w → AreAlike v w
  alike (Won k m) (Won j n) v w = (one_bound k j m n v w, one_player k j m n v w)
  alike (Won k m) (Unknown j) v w = w.1 k v.0 m.player (wins k m v)
  alike (Unknown k) (Won j n) v w = v.1 j w.0 n.player (wins j n w)
  alike (Unknown k) (Unknown j) v w = v.0 ∙ sym w.0

  module _ (few : signal_count s.names ≤ 40) (low : b.last ≤ 10000) where
    well : (who : Player) → IsAutomaton (automaton_of pair who)
    well System = is.system.well
    well Environment = is.environment.well

    -- at one bound a player has one machine
    one_machine : (k : ℕ) (m n : MachineData) → m.player ≡ n.player → IsVerdict pair s.names b (Won k m) → IsVerdict pair s.names b (Won k n) → m ≡ n
    one_machine k m n player v w =
        let kind : m.kind ≡ n.kind = v.2.kind ∙ ap (λ p. kind_of p s.names.target) player ∙ sym w.2.kind in
        let inputs : m.inputs ≡ n.inputs = v.2.inputs ∙ sym w.2.inputs in
        let outputs : m.outputs ≡ n.outputs = v.2.outputs ∙ sym w.2.outputs in
        let whole = subst (λ p. IsMachineOfWhole (automaton_of pair p) s.names p k n.states) (sym player) w.4 in
        let states : m.states ≡ n.states = whole_machine_is_one (automaton_of pair m.player) s.names m.player k m.states n.states (well m.player) few (omega (arith, tried_low b k v.0, low)) v.4 whole in
        ap (λ (p : Player). record m { player = p }) player ∙ ap (λ (x : Kind). record { player = n.player; kind = x; inputs = m.inputs; outputs = m.outputs; states = m.states }) kind
        ∙ ap (λ (x : ℕ). record { player = n.player; kind = n.kind; inputs = x; outputs = m.outputs; states = m.states }) inputs
        ∙ ap (λ (x : ℕ). record { player = n.player; kind = n.kind; inputs = n.inputs; outputs = x; states = m.states }) outputs
        ∙ ap (λ (x : List (List Line)). record { player = n.player; kind = n.kind; inputs = n.inputs; outputs = n.outputs; states = x }) states

    one : (v w : Verdict) → IsVerdict pair s.names b v → IsVerdict pair s.names b w → v ≡ w
    one (Won k m) (Won j n) v w =
        let bound : k ≡ j = one_bound k j m n v w in
        let machine : m ≡ n = one_machine k m n (one_player k j m n v w) v (subst (λ i. IsVerdict pair s.names b (Won i n)) (sym bound) w) in
        ap (λ i. Won i m) bound ∙ ap (λ x. Won j x) machine
    one (Won k m) (Unknown j) v w = absurd (w.1 k v.0 m.player (wins k m v))
    one (Unknown k) (Won j n) v w = absurd (v.1 j w.0 n.player (wins j n w))
    one (Unknown k) (Unknown j) v w = ap (λ i. Unknown i) (v.0 ∙ sym w.0)

pub verdicts_are_alike : VerdictsAreAlike
verdicts_are_alike s pair again b v w is also verdict other =
    alike s again also b v w (subst (λ p. IsVerdict p s.names b v) (one_pair s pair again is also) verdict) other

pub verdict_is_one : VerdictIsOne
verdict_is_one s pair again b v w few low is also verdict other =
    one s again also b few low v w (subst (λ p. IsVerdict p s.names b v) (one_pair s pair again is also) verdict) other
