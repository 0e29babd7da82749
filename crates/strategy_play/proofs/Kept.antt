-- Along all plays of the machine every lane is at most at the bound.
use Rattle.std.proofs.Common.{Vec, Global, ◌≡◌, ℕ, ◌<◌, ◌^◌, Bool, true, false, cond, eqb, List, [], ◌∷◌, length, map, get_or, Option, Some, None, refl, sym, ◌∙◌, ap, subst, arith}
use Rattle.std.specs.Prelude.{ℤ, pos, negsuc, ◌≤ℤ◌}
use Rattle.std.specs.Option.{IsSomeAnd, MatchOption}
use Rattle.std.specs.List.{All}
use Rattle.std.proofs.lemmas.Int.{ints}
use Rattle.std.proofs.lemmas.List.Elements.{All-from_recursion}
use Rattle.std.proofs.lemmas.List.FromFn.{get_or-map-range_with_len, length-map-range_with_len}
use Rattle.counter_vec.specs.Counters.{at_or_below}
use Rattle.counter_vec.specs.Orders.{below-trans}
use Rattle.counter_vec.proofs.Vectors.{at_or_below-lanes, arrived_low}
use Rattle.counter_vec.proofs.Galois.{galois}
use Rattle.cpre_step.specs.Refinement.{AreVectors}
use Rattle.word_core.specs.declared.names.Kind.{Kind}
use Rattle.word_core.specs.declared.names.Kind.TheVariants.{First, Second}
use Rattle.word_core.specs.declared.names.Player.{Player}
use Rattle.word_core.specs.declared.machines.Line.{Line}
use Rattle.word_core.specs.Machine.{MachineData, IsMachine, IsLine, choice, lines_at, own_of, other_of}
use Rattle.word_core.specs.Play.{Move, IsPlayFrom}
use Rattle.word_core.proofs.TreeLabels.{label_of-all}
use Rattle.game_form.specs.Game.{GameData, IsGame, lanes, action_at, class_at, class_of, action_of, letter_of, other_width}
use Rattle.game_form.specs.Vector.{IsVector, lane, vector, arrived, bound, begins, initial, successor, predecessor}
use Rattle.game_form.specs.Held.{after, InBound, KeepsFrom}
use Rattle.strategy_play.specs.Answer.{answer_of, IsAnswer}
use Rattle.strategy_play.specs.Lead.{place_above, next_at}
use Rattle.game_form.specs.Letters.{letters_of, HasLetters}
use Rattle.strategy_play.specs.State.{IsState}
use Rattle.strategy_play.specs.Strategy.{entry_of_state, IsStrategy}
use Rattle.strategy_play.proofs.Faults.{lines_in, made_of, is_machine}
use Rattle.strategy_play.proofs.Leading.{pick_from, leader_within, position_within, passes}
use Rattle.strategy_play.proofs.Played.{decides_within}

-- an answer is where the action of the letter leads
pub answer_leads : (kind : Kind) (g : GameData) (next : ℕ → Option ℕ) (other own entry : ℕ) → other < 2 ^ other_width g → letters_of kind g → answer_of kind g next other own entry → next (action_of g own other) ≡ Some entry
answer_leads First g next other own entry in_other letters h =
    let r = letters h.place other (leader_within next g.classes h.place h.leads) in_other in
    h.entry_is r.0 r.1 (r.2 ∙ ap (λ o. action_of g o other) (sym h.own_is))
answer_leads Second g next other own entry in_other letters h =
    let r = pick_from next (class_at g (class_of g other)).options (own, entry) h in
    ap next (ap (λ o. action_of g o other) (sym r.own) ∙ sym (letters other r.place in_other r.within)) ∙ r.next_is

place_found : (entries : List (List ℤ)) (v : List ℤ) (n : ℕ) → place_above entries v ≡ Some n → (n < length entries) × (at_or_below v (get_or entries n []) ≡ true)
place_found entries v n e =
    let r = position_within (λ e. at_or_below v e) 0 entries n e in
    (omega (arith, r.1), passes (λ e. at_or_below v e) 0 entries n n [] e (omega arith))

at_most : (x y z : ℤ) → x ≤ℤ y → y ≤ℤ z → x ≤ℤ z
at_most x y z a b = grind (arith, ints)

vector_below : (g : GameData) (u e : List ℤ) → IsVector g e → at_or_below u e ≡ true → ((q : ℕ) → q < length u → negsuc 0 ≤ℤ lane u q) → IsVector g u
vector_below g u e is below low =
    let b = at_or_below-lanes u e below in
    record {
      same_length = b.same_length ∙ is.same_length;
      low = low;
      high = λ q lt. at_most (lane u q) (lane e q) g.k (b.lanes q lt) (is.high q (subst (λ n. q < n) b.same_length lt));
    }

vector_low : (n : ℕ) (f : ℕ → ℤ) → ((q : ℕ) → negsuc 0 ≤ℤ f q) → (q : ℕ) → q < length (vector n f) → negsuc 0 ≤ℤ lane (vector n f) q
vector_low n f low q lt =
    let size = length-map-range_with_len f 0 n in
    subst (λ x. negsuc 0 ≤ℤ x) (sym (get_or-map-range_with_len f 0 n q q (pos 0) (omega arith) (omega arith))) (low q)

begins_low : (init : Option ℕ) (q : ℕ) → negsuc 0 ≤ℤ begins init q
begins_low None q = grind (arith, ints)
begins_low (Some first) q = go (eqb first q)
  where
    go : (b : Bool) → negsuc 0 ≤ℤ cond b (pos 0) (negsuc 0)
    go true = grind (arith, ints)
    go false = grind (arith, ints)

module _ (g : GameData) (known : IsGame g) (entries : List (List ℤ)) (vectors : AreVectors g entries) (m : MachineData) (is : IsMachine m) (others : other_of m ≡ other_width g)
    (strategy : IsStrategy g entries m.states) (letters : HasLetters g) where
  entry_vector : (s : ℕ) → s < length m.states → IsVector g (entry_of_state entries strategy.order s)
  entry_vector s lt = All-from_recursion (IsVector g) entries vectors (get_or strategy.order s 0) [] (strategy.within s 0 (omega (arith, strategy.count)))

  action_within : (own other : ℕ) → action_of g own other < length g.actions
  action_within own other = label_of-all (λ l. l < length g.actions) g.letters known.letters.tree known.letters.labels (letter_of g own other)

  -- the successor of what is at or below the entry of a state is at or below that of the next one
  step_below : (s : ℕ) (v : List ℤ) (other own next : ℕ) → s < length m.states → next < length m.states → other < 2 ^ other_width g → IsVector g v → at_or_below v (entry_of_state entries strategy.order s) ≡ true
      → IsAnswer g (next_at g entries (entry_of_state entries strategy.order s)) other own (get_or strategy.order next 0)
      → at_or_below (successor g (action_of g own other) v) (entry_of_state entries strategy.order next) ≡ true
  step_below s v other own next in_s in_next in_other vector_v below answer =
      let e = entry_of_state entries strategy.order s in
      let target = entry_of_state entries strategy.order next in
      let a = action_of g own other in
      let leads = answer_leads g.kind g (next_at g entries e) other own (get_or strategy.order next 0) in_other letters answer in
      let found = place_found entries (successor g a e) (get_or strategy.order next 0) leads in
      galois g known a (action_within own other) v target vector_v (entry_vector next in_next)
      ∙ below-trans v e (predecessor g a target) below (sym (galois g known a (action_within own other) e target (entry_vector s in_s) (entry_vector next in_next)) ∙ found.1)

  keep : (moves : List Move) (s : ℕ) (v : List ℤ) → s < length m.states → IsVector g v → at_or_below v (entry_of_state entries strategy.order s) ≡ true → IsPlayFrom m s moves → InBound g (after g v moves)
  keep [] s v in_s vector_v below play = vector_v.high
  keep (move ∷ moves) s v in_s vector_v below play =
      let in_other : move.other < 2 ^ other_width g = subst (λ w. move.other < 2 ^ w) others play.0 in
      go in_other (keep moves) (choice (lines_at m s) move.other) play.1
      (decides_within (IsLine (own_of m) (other_of m) (length m.states)) (λ l. IsAnswer g (next_at g entries (entry_of_state entries strategy.order s)) move.other l.own (get_or strategy.order l.next 0)) (lines_at m s) move.other
      (is.ranged s [] in_s) (strategy.answers s in_s move.other in_other))
    where
      go : move.other < 2 ^ other_width g
          → ((t : ℕ) (w : List ℤ) → t < length m.states → IsVector g w → at_or_below w (entry_of_state entries strategy.order t) ≡ true → IsPlayFrom m t moves → InBound g (after g w moves))
          → (o : Option Line) → MatchOption o ⊥ (λ l. (move.own ≡ l.own) × IsPlayFrom m l.next moves)
          → IsSomeAnd o (λ l. IsLine (own_of m) (other_of m) (length m.states) l × IsAnswer g (next_at g entries (entry_of_state entries strategy.order s)) move.other l.own (get_or strategy.order l.next 0))
          → InBound g (after g v (move ∷ moves))
      go in_other later None step facts = absurd step
      go in_other later (Some l) step facts =
          let next_below = step_below s v move.other l.own l.next in_s facts.0.2 in_other vector_v below facts.1 in
          let next_vector = vector_below g (successor g (action_of g l.own move.other) v) (entry_of_state entries strategy.order l.next) (entry_vector l.next facts.0.2) next_below
          (vector_low (lanes g) (arrived (bound g) (action_at g (action_of g l.own move.other)) v) (arrived_low (bound g) (action_at g (action_of g l.own move.other)) v)) in
          subst (λ o. InBound g (after g (successor g (action_of g o move.other) v) moves)) (sym step.0)
          (later l.next (successor g (action_of g l.own move.other) v) facts.0.2 next_vector next_below step.1)

  keeps : KeepsFrom g m 0 (initial g)
  keeps moves play =
      let found = place_found entries (initial g) (get_or strategy.order 0 0) strategy.first in
      keep moves 0 (initial g) is.begins
      (vector_below g (initial g) (entry_of_state entries strategy.order 0) (entry_vector 0 is.begins) found.1 (vector_low (lanes g) (begins g.init) (begins_low g.init)))
      found.1 play

-- the machine that is made keeps the bound
pub made_keeps : (g : GameData) (entries : List (List ℤ)) (m : MachineData) (player : Player) (kind : Kind) (inputs outputs : ℕ) (states : List (Vec Line Global)) → IsGame g → AreVectors g entries
    → m ≡ made_of (map lines_in states) player kind inputs outputs → player ≡ g.player → kind ≡ g.kind → inputs ≡ g.inputs → outputs ≡ g.outputs
    → 0 < length states → All (IsState g (length states)) (map lines_in states) → IsStrategy g entries (map lines_in states) → HasLetters g → KeepsFrom g m 0 (initial g)
made_keeps g entries m player kind inputs outputs states known vectors made p k i o some all strategy letters =
    subst (λ n. KeepsFrom g n 0 (initial g)) (sym same)
    (keeps g known entries vectors (made_of (map lines_in states) g.player g.kind g.inputs g.outputs)
    (is_machine g g.player g.kind g.inputs g.outputs states known refl refl refl refl some all) refl strategy letters)
  where
    same : m ≡ made_of (map lines_in states) g.player g.kind g.inputs g.outputs
    same =
        made ∙ ap (λ x. made_of (map lines_in states) x kind inputs outputs) p ∙ ap (λ x. made_of (map lines_in states) g.player x inputs outputs) k
        ∙ ap (λ x. made_of (map lines_in states) g.player g.kind x outputs) i ∙ ap (λ x. made_of (map lines_in states) g.player g.kind g.inputs x) o
