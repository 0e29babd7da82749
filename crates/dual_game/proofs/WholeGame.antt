-- Each automaton has a game: each letter has an action of its own, and there is one class.
use Rattle.std.proofs.Common.{◌≡◌, ℕ, zero, suc, ◌+◌, ◌*◌, ◌/◌, ◌%◌, ◌^◌, ◌<◌, ◌≤◌, List, [], ◌∷◌, length, map, get_or, Option, Some, None, refl, sym, ◌∙◌, ap, subst, arith}
use Rattle.std.specs.Prelude.{pos, slice_get}
use Rattle.std.specs.List.{All, range_with_len}
use Rattle.std.specs.Option.{ForSome, IfSome}
use Rattle.std.proofs.lemmas.Int.{ints}
use Rattle.std.proofs.lemmas.List.Elements.{All-contains}
use Rattle.std.proofs.lemmas.List.FromFn.{get_or-map-range_with_len, length-map-range_with_len}
use Rattle.std.proofs.lemmas.Nat.{pow-add, pow_pos, mul-add-lt, shr_high, mod_low}
use Rattle.std.proofs.lemmas.Option.{same_Some}
use Rattle.word_core.specs.declared.branches.Branch.TheVariants.{Leaf}
use Rattle.word_core.specs.declared.names.Kind.{Kind}
use Rattle.word_core.specs.declared.names.Kind.TheVariants.{First, Second}
use Rattle.word_core.specs.declared.names.Names.{Names}
use Rattle.word_core.specs.declared.names.Player.{Player}
use Rattle.word_core.specs.declared.names.Player.TheVariants.{System, Environment}
use Rattle.word_core.specs.Automaton.{AutomatonData, IsAutomaton, IsEdge, edges_at}
use Rattle.word_core.specs.Machine as machine
use Rattle.word_core.specs.Play.{letter_of}
use Rattle.word_core.specs.Tree.{IsNodeAt, LabelHas, TestsBelow}
use Rattle.game_form.specs.declared.actions.Step.{Step}
use Rattle.game_form.specs.Game as game
use Rattle.game_form.specs.Game.{GameData, IsGame, IsAction, IsClass, lanes, lanes_of, action_at, action_of, row_at, class_at, option_at, of_first, of_second, own_width, other_width}
use Rattle.game_form.specs.Tree.{IsTreeOver}
use Rattle.game_form.specs.Vector.{number}
use Rattle.action_groups.specs.Rows.{edge_number, HasRows}
use Rattle.dual_game.specs.Games.{kind_of}
use Rattle.dual_game.specs.Machines.{CountsFor}
use Rattle.dual_game.proofs.FullTree.{full, full_over, full_label}
use Rattle.dual_game.proofs.MadeRows.{rows_from, rows_are, rows_number, edges_small}
use Rattle.dual_game.proofs.Reached.{edge_taken}

-- no edge leads past the states
past_states : (a : AutomatonData) → IsAutomaton a → (x q p : ℕ) → q < length a.states → length a.states ≤ p → edge_number (edges_at a q) x p ≡ 0
past_states a is x q p l past = by (edge_number (edges_at a q) x p) refl
  where
    by : (n : ℕ) → edge_number (edges_at a q) x p ≡ n → edge_number (edges_at a q) x p ≡ 0
    by zero e = e
    by (suc r) e =
        let t = edge_taken (edges_at a q) x p r e in
        let all : All (IsEdge a.signals (length a.states)) (edges_at a q) = is.ranged q [] l in
        let edge = All-contains (IsEdge a.signals (length a.states)) (edges_at a q) t.edge all t.contained in
        absurd (omega (arith, edge.1, t.next, past))

lanes_first : (actions : List (List (List Step))) → lanes_of actions ≡ length (get_or actions 0 [])
lanes_first [] = refl
lanes_first (rows ∷ rest) = refl

module _ (a : AutomatonData) (who : Player) (kind : Kind) (inputs outputs k : ℕ) where
  abbrev first_signals : ℕ
  first_signals = of_first kind (machine.own_width who inputs outputs) (machine.other_width who inputs outputs)

  abbrev second_signals : ℕ
  second_signals = of_second kind (machine.own_width who inputs outputs) (machine.other_width who inputs outputs)

  -- the letter of a valuation, the signals of the side that moves first before the others
  abbrev letter : ℕ → ℕ
  letter v = letter_of who inputs (record { own = of_first kind (v % 2 ^ first_signals) (v / 2 ^ first_signals); other = of_second kind (v % 2 ^ first_signals) (v / 2 ^ first_signals) })

  abbrev rows_of : ℕ → List (List Step)
  rows_of v = rows_from (length a.states) (λ q p. edge_number (edges_at a q) (letter v) p)

  abbrev pub letter_game : GameData
  letter_game = record {
    player = who;
    kind = kind;
    inputs = inputs;
    outputs = outputs;
    k = pos k;
    init = a.init;
    actions = map rows_of (range_with_len 0 (2 ^ (inputs + outputs)));
    classes = record { least = 0; options = (0, 0) ∷ [] } ∷ [];
    letters = full (inputs + outputs) 0 0 0;
    firsts = Leaf 0 ∷ [];
  }

  count : length (map rows_of (range_with_len 0 (2 ^ (inputs + outputs)))) ≡ 2 ^ (inputs + outputs)
  count = length-map-range_with_len rows_of 0 (2 ^ (inputs + outputs))

  action : (v : ℕ) → v < 2 ^ (inputs + outputs) → action_at letter_game v ≡ rows_of v
  action v l = get_or-map-range_with_len rows_of 0 (2 ^ (inputs + outputs)) v v [] l (omega arith)

  made : (v : ℕ) → IsAction (length a.states) (rows_of v)
  made v = rows_are (length a.states) (λ q p. edge_number (edges_at a q) (letter v) p) (λ q p. edges_small (edges_at a q) (letter v) p)

  lanes_are : lanes letter_game ≡ length a.states
  lanes_are = lanes_first letter_game.actions ∙ ap (λ (rows : List (List Step)). length rows) (action 0 (pow_pos (inputs + outputs))) ∙ (made 0).height

  -- the valuation of two parts leads back to them
  module _ (own other : ℕ) (own_in : own < 2 ^ machine.own_width who inputs outputs) (other_in : other < 2 ^ machine.other_width who inputs outputs) where
    first_below : (m : Kind) → of_first m own other < 2 ^ of_first m (machine.own_width who inputs outputs) (machine.other_width who inputs outputs)
    first_below First = own_in
    first_below Second = other_in

    second_below : (m : Kind) → of_second m own other < 2 ^ of_second m (machine.own_width who inputs outputs) (machine.other_width who inputs outputs)
    second_below First = other_in
    second_below Second = own_in

    widths : (m : Kind) (p : Player)
        → of_first m (machine.own_width p inputs outputs) (machine.other_width p inputs outputs) + of_second m (machine.own_width p inputs outputs) (machine.other_width p inputs outputs) ≡ inputs + outputs
    widths First System = omega arith
    widths First Environment = refl
    widths Second System = refl
    widths Second Environment = omega arith

    abbrev valuation : ℕ
    valuation = of_first kind own other + of_second kind own other * 2 ^ first_signals

    turned : (x y : ℕ) → x + y ≡ y + x
    turned x y = omega arith

    abbrev at : valuation ≡ of_second kind own other * 2 ^ first_signals + of_first kind own other
    at = turned (of_first kind own other) (of_second kind own other * 2 ^ first_signals)

    within : valuation < 2 ^ (inputs + outputs)
    within =
        subst (λ n. n < 2 ^ (inputs + outputs)) (sym at)
        (subst (λ n. of_second kind own other * 2 ^ first_signals + of_first kind own other < n) (sym (pow-add 2 first_signals second_signals) ∙ ap (λ n. 2 ^ n) (widths kind who))
        (mul-add-lt (of_second kind own other) (2 ^ first_signals) (of_first kind own other) (2 ^ second_signals) (second_below kind) (first_below kind)))

    lower : valuation % 2 ^ first_signals ≡ of_first kind own other
    lower = ap (λ n. n % 2 ^ first_signals) at ∙ mod_low (of_second kind own other) first_signals (of_first kind own other) (first_below kind)

    upper : valuation / 2 ^ first_signals ≡ of_second kind own other
    upper = ap (λ n. n / 2 ^ first_signals) at ∙ shr_high (of_second kind own other) first_signals (of_first kind own other) (first_below kind)

    own_back : (m : Kind) → of_first m (of_first m own other) (of_second m own other) ≡ own
    own_back First = refl
    own_back Second = refl

    other_back : (m : Kind) → of_second m (of_first m own other) (of_second m own other) ≡ other
    other_back First = refl
    other_back Second = refl

    letter_back : letter valuation ≡ letter_of who inputs (record { own = own; other = other })
    letter_back =
        ap (λ n. letter_of who inputs (record { own = of_first kind n (valuation / 2 ^ first_signals); other = of_second kind n (valuation / 2 ^ first_signals) })) lower
        ∙ ap (λ n. letter_of who inputs (record { own = of_first kind (of_first kind own other) n; other = of_second kind (of_first kind own other) n })) upper
        ∙ ap (λ n. letter_of who inputs (record { own = n; other = of_second kind (of_first kind own other) (of_second kind own other) })) (own_back kind)
        ∙ ap (λ n. letter_of who inputs (record { own = own; other = n })) (other_back kind)

  module _ (is : IsAutomaton a) (few : inputs + outputs ≤ 40) (low : k ≤ 10000) where
    has_rows : HasRows a letter_game
    has_rows own other q p own_in other_in l =
        let v = valuation own other own_in other_in in
        let label : action_of letter_game own other ≡ valuation own other own_in other_in = full_label (inputs + outputs) (omega (arith, few)) (valuation own other own_in other_in) (within own other own_in other_in) in
        ap (λ i. number (row_at (action_at letter_game i) q) p) label
        ∙ ap (λ rows. number (row_at rows q) p) (action (valuation own other own_in other_in) (within own other own_in other_in))
        ∙ rows_number (length a.states) (λ q p. edge_number (edges_at a q) (letter (valuation own other own_in other_in)) p) (λ q p l past. past_states a is (letter (valuation own other own_in other_in)) q p l past) q p l
        ∙ ap (λ x. edge_number (edges_at a q) x p) (letter_back own other own_in other_in)

    begins : (o : Option ℕ) → IfSome o (λ q. q < length a.states) → ForSome o (λ q. q < lanes letter_game)
    begins None h = λ q e. absurd (cc)
    begins (Some p) h = λ q e. let same : p ≡ q = same_Some p q e in omega (arith, h, same, lanes_are)

    one_class : (c : ℕ) → c < 1 → IsClass letter_game (class_at letter_game c)
    one_class (suc c) l = absurd (omega arith)
    one_class zero l = record { least = pow_pos (game.first_width letter_game); some = omega arith; action = λ i h. first i h; reply = λ i h. second i h }
      where
        first : (i : ℕ) → i < 1 → (option_at (class_at letter_game 0) i).0 < length letter_game.actions
        first zero h = omega (arith, count, pow_pos (inputs + outputs))
        first (suc i) h = absurd (omega arith)

        second : (i : ℕ) → i < 1 → (option_at (class_at letter_game 0) i).1 < 2 ^ game.second_width letter_game
        second zero h = pow_pos (game.second_width letter_game)
        second (suc i) h = absurd (omega arith)

    one_leaf : IsTreeOver (game.first_width letter_game) 1 (Leaf 0 ∷ [])
    one_leaf = record { tree = record { some = omega arith; placed = placed }; signals = signals; labels = labels }
      where
        placed : (place : ℕ) → IsNodeAt place (slice_get (Leaf 0 ∷ []) place)
        placed zero = tt
        placed (suc place) = tt

        signals : (place : ℕ) → TestsBelow (game.first_width letter_game) (slice_get (Leaf 0 ∷ []) place)
        signals zero = tt
        signals (suc place) = tt

        labels : (place : ℕ) → LabelHas (λ l. l < 1) (slice_get (Leaf 0 ∷ []) place)
        labels zero = omega arith
        labels (suc place) = tt

    is_game : IsGame letter_game
    is_game = record {
      widths = few;
      low = grind (arith, ints);
      high = grind (arith, ints);
      some_action = omega (arith, count, pow_pos (inputs + outputs));
      some_class = omega arith;
      actions = λ i l.
          let in_letters : i < 2 ^ (inputs + outputs) = omega (arith, l, count) in
          subst (λ n. IsAction n (action_at letter_game i)) (sym lanes_are) (subst (IsAction (length a.states)) (sym (action i in_letters)) (made i));
      init = begins a.init is.begins;
      classes = one_class;
      letters = subst (λ n. IsTreeOver (inputs + outputs) n letter_game.letters) (sym count) (full_over (inputs + outputs) (omega (arith, few)));
      firsts = one_leaf;
    }

-- a game over these names that counts on the automaton
pub whole_game : (a : AutomatonData) (names : Names) (who : Player) (k : ℕ) → IsAutomaton a → length names.inputs.items + length names.outputs.items ≤ 40 → k ≤ 10000
    → CountsFor a names who k (letter_game a who (kind_of who names.target) (length names.inputs.items) (length names.outputs.items) k)
whole_game a names who k is few low = record {
  game = is_game a who (kind_of who names.target) (length names.inputs.items) (length names.outputs.items) k is few low;
  player = refl;
  kind = refl;
  inputs = refl;
  outputs = refl;
  bound = refl;
  init = refl;
  lanes = lanes_are a who (kind_of who names.target) (length names.inputs.items) (length names.outputs.items) k;
  rows = has_rows a who (kind_of who names.target) (length names.inputs.items) (length names.outputs.items) k is few low;
}
