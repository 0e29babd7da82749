-- Games of an automaton and of its classes: what is held in the one is held in the other.
use Rattle.std.proofs.Common.{◌≡◌, ℕ, zero, suc, ◌<◌, ◌≤◌, ◌^◌, ◌⊎◌, inl, inr, Bool, true, false, cond, nat_eq, List, [], ◌∷◌, length, map, Option, Some, None, refl, sym, ◌∙◌, ap, subst, arith}
use Rattle.std.specs.Prelude.{ℤ, pos, negsuc, ◌≤ℤ◌, option_map}
use Rattle.std.specs.Int.{int_max}
use Rattle.std.specs.Option.{IfSome}
use Rattle.std.proofs.lemmas.Int.{ints}
use Rattle.std.proofs.lemmas.List.{get_or-map, length-map}
use Rattle.std.proofs.lemmas.List.FromFn.{get_or-map-range_with_len, length-map-range_with_len}
use Rattle.word_core.specs.Automaton.{AutomatonData, IsAutomaton, edges_at}
use Rattle.word_core.specs.Machine.{MachineData, IsMachine, IsLine, lines_at, own_of, other_of}
use Rattle.word_core.specs.Play.{Move, IsPlayFrom, letter_of}
use Rattle.word_core.proofs.TreeLabels.{label_of-all}
use Rattle.game_form.specs.Game as game
use Rattle.game_form.specs.Game.{GameData, IsGame, lanes, action_at, action_of, row_at, own_width, other_width}
use Rattle.std.specs.List.{range_with_len}
use Rattle.game_form.specs.Vector.{lane, number, arrived, successor, bound, size_of, begins, initial, AtOrBelow}
use Rattle.game_form.specs.Held.{after, InBound, IsMachineOf, IsHeld}
use Rattle.action_groups.specs.Rows.{edge_number, HasRows}
use Rattle.nba_quotient.specs.Folding.{IsFolding}
use Rattle.nba_quotient.specs.Ways.{class_at}
use Rattle.dual_game.proofs.Counted.{decided, lane_successor, length_successor}
use Rattle.dual_game.proofs.Shadow.{IsShadow, number_up, number_down, arrived_below, arrived_reached}

-- a game of an automaton and one of the automaton of its classes, of one player, kind, signals and bound
pub record AreAlike (a q : AutomatonData) (of : List ℕ) (g h : GameData) : Type 0 where
  pub automaton : IsAutomaton a
  pub folding : IsFolding a of q
  pub whole : IsGame g
  pub small : IsGame h
  pub player : h.player ≡ g.player
  pub kind : h.kind ≡ g.kind
  pub inputs : h.inputs ≡ g.inputs
  pub outputs : h.outputs ≡ g.outputs
  pub bounds : h.k ≡ g.k
  pub whole_init : g.init ≡ a.init
  pub small_init : h.init ≡ q.init
  pub whole_lanes : lanes g ≡ length a.states
  pub small_lanes : lanes h ≡ length q.states
  pub whole_rows : HasRows a g
  pub small_rows : HasRows q h

-- the number of each state is that of its class
abbrev pub lifted : List ℕ → List ℤ → List ℤ
lifted of w = map (λ c. lane w c) of

-- the greatest number of the states of a class
abbrev pub greatest : List ℕ → List ℤ → ℕ → ℤ
greatest [] v c = negsuc 0
greatest (d ∷ of) [] c = negsuc 0
greatest (d ∷ of) (x ∷ v) c = cond (nat_eq d c) (int_max x (greatest of v c)) (greatest of v c)

least : (x : ℤ) → x ≤ℤ x
least x = grind (arith, ints)

at_most : (x y z : ℤ) → x ≤ℤ y → y ≤ℤ z → x ≤ℤ z
at_most x y z h k = grind (arith, ints)

equal : (m n : ℕ) → nat_eq m n ≡ true → m ≡ n
equal m n h = grind (arith)

itself : (n : ℕ) → nat_eq n n ≡ true
itself n = grind (arith)

max_first : (x y : ℤ) → x ≤ℤ int_max x y
max_first x y = grind (arith, ints)

max_second : (x y z : ℤ) → z ≤ℤ y → z ≤ℤ int_max x y
max_second x y z h = grind (arith, ints)

max_one : (x y : ℤ) → (int_max x y ≡ x) ⊎ (int_max x y ≡ y)
max_one x y = grind (arith, ints)

pub greatest_above : (of : List ℕ) (v : List ℤ) (c s : ℕ) → s < length of → s < length v → class_at of s ≡ c → lane v s ≤ℤ greatest of v c
greatest_above [] v c s l m e = absurd (omega arith)
greatest_above (d ∷ of) [] c s l m e = absurd (omega arith)
greatest_above (d ∷ of) (x ∷ v) c zero l m e =
    subst (λ b. x ≤ℤ cond b (int_max x (greatest of v c)) (greatest of v c)) (sym (ap (λ k. nat_eq k c) e ∙ itself c)) (max_first x (greatest of v c))
greatest_above (d ∷ of) (x ∷ v) c (suc s) l m e = by (nat_eq d c) (greatest_above of v c s (omega arith) (omega arith) e)
  where
    by : (b : Bool) → lane v s ≤ℤ greatest of v c → lane v s ≤ℤ cond b (int_max x (greatest of v c)) (greatest of v c)
    by true h = max_second x (greatest of v c) (lane v s) h
    by false h = h

-- a state of the class with so great a number
record IsReached (of : List ℕ) (v : List ℤ) (c : ℕ) (x : ℤ) : Type 0 where
  state : ℕ
  within : state < length of
  class : class_at of state ≡ c
  large : x ≤ℤ lane v state

greatest_from : (of : List ℕ) (v : List ℤ) (c : ℕ) → (greatest of v c ≡ negsuc 0) ⊎ IsReached of v c (greatest of v c)
greatest_from [] v c = inl refl
greatest_from (d ∷ of) [] c = inl refl
greatest_from (d ∷ of) (x ∷ v) c = by (nat_eq d c) refl (greatest_from of v c)
  where
    later : (y : ℤ) → y ≡ greatest of v c → (greatest of v c ≡ negsuc 0) ⊎ IsReached of v c (greatest of v c) → (y ≡ negsuc 0) ⊎ IsReached (d ∷ of) (x ∷ v) c y
    later y e (inl h) = inl (e ∙ h)
    later y e (inr h) = inr (record { state = suc h.state; within = omega (arith, h.within); class = h.class; large = subst (λ z. z ≤ℤ lane v h.state) (sym e) h.large })

    of_two : (nat_eq d c ≡ true) → (greatest of v c ≡ negsuc 0) ⊎ IsReached of v c (greatest of v c)
        → (int_max x (greatest of v c) ≡ x) ⊎ (int_max x (greatest of v c) ≡ greatest of v c)
        → (int_max x (greatest of v c) ≡ negsuc 0) ⊎ IsReached (d ∷ of) (x ∷ v) c (int_max x (greatest of v c))
    of_two t rest (inl h) = inr (record { state = zero; within = omega arith; class = equal d c t; large = subst (λ z. z ≤ℤ x) (sym h) (least x) })
    of_two t rest (inr h) = later (int_max x (greatest of v c)) h rest

    by : (b : Bool) → nat_eq d c ≡ b → (greatest of v c ≡ negsuc 0) ⊎ IsReached of v c (greatest of v c)
        → (cond b (int_max x (greatest of v c)) (greatest of v c) ≡ negsuc 0) ⊎ IsReached (d ∷ of) (x ∷ v) c (cond b (int_max x (greatest of v c)) (greatest of v c))
    by true t rest = of_two t rest (max_one x (greatest of v c))
    by false t rest = later (greatest of v c) refl rest

height : (g : GameData) → IsGame g → (own other : ℕ) → length (action_at g (action_of g own other)) ≡ lanes g
height g known own other =
    (known.actions (action_of g own other) (label_of-all (λ l. l < length g.actions) g.letters known.letters.tree known.letters.labels (game.letter_of g own other))).height

begins_low : (i : Option ℕ) (p : ℕ) → negsuc 0 ≤ℤ begins i p
begins_low None p = grind (arith, ints)
begins_low (Some f) p = by (nat_eq f p)
  where
    by : (b : Bool) → negsuc 0 ≤ℤ cond b (pos 0) (negsuc 0)
    by true = grind (arith, ints)
    by false = grind (arith, ints)

-- the first state is of the first class
begins_below : (of : List ℕ) (i : Option ℕ) (s : ℕ) → begins i s ≤ℤ begins (option_map (class_at of) i) (class_at of s)
begins_below of None s = least (negsuc 0)
begins_below of (Some f) s = by (nat_eq f s) refl
  where
    by : (b : Bool) → nat_eq f s ≡ b → cond b (pos 0) (negsuc 0) ≤ℤ begins (Some (class_at of f)) (class_at of s)
    by true e =
        let same : nat_eq (class_at of f) (class_at of s) ≡ true = ap (λ k. nat_eq (class_at of f) (class_at of k)) (sym (equal f s e)) ∙ itself (class_at of f) in
        subst (λ b. pos 0 ≤ℤ cond b (pos 0) (negsuc 0)) (sym same) (least (pos 0))
    by false e = begins_low (Some (class_at of f)) (class_at of s)

begins_reached : (of : List ℕ) (n : ℕ) (i : Option ℕ) (c : ℕ) → IfSome i (λ f. f < n) → (s : ℕ) × (s < n) × (class_at of s ≡ c)
    → (s : ℕ) × (s < n) × (class_at of s ≡ c) × (begins (option_map (class_at of) i) c ≤ℤ begins i s)
begins_reached of n None c within first = (first.0, first.1, first.2, least (negsuc 0))
begins_reached of n (Some f) c within first = by (nat_eq (class_at of f) c) refl
  where
    by : (b : Bool) → nat_eq (class_at of f) c ≡ b → (s : ℕ) × (s < n) × (class_at of s ≡ c) × (cond b (pos 0) (negsuc 0) ≤ℤ begins (Some f) s)
    by true e = (f, within, equal (class_at of f) c e, subst (λ b. pos 0 ≤ℤ cond b (pos 0) (negsuc 0)) (sym (itself f)) (least (pos 0)))
    by false e = (first.0, first.1, first.2, begins_low (Some f) first.0)

module _ (a q : AutomatonData) (of : List ℕ) (g h : GameData) (alike : AreAlike a q of g h) where
  abbrev pub Stands : List ℤ → List ℤ → Type 0
  Stands v w = IsShadow of (length a.states) (length q.states) v w

  pub owns : own_width h ≡ own_width g
  owns = rw (alike.player, alike.inputs, alike.outputs) refl

  pub others : other_width h ≡ other_width g
  others = rw (alike.player, alike.inputs, alike.outputs) refl

  pub first_of : (c : ℕ) → c < length q.states → (s : ℕ) × (s < length a.states) × (class_at of s ≡ c)
  first_of c l = let f = alike.folding.firsts c l in (f.0, omega (arith, f.1.within, alike.folding.each), f.1.class)

  pub stepped : (own other : ℕ) (v w : List ℤ) → own < 2 ^ own_width g → other < 2 ^ other_width g → Stands v w → Stands (successor g (action_of g own other) v) (successor h (action_of h own other) w)
  stepped own other v w in_own in_other stands = record {
    long = length_successor g act v ∙ alike.whole_lanes;
    short = length_successor h small w ∙ alike.small_lanes;
    below = λ s l.
        let lower = lane_successor g act v s (omega (arith, l, alike.whole_lanes)) in
        let upper = lane_successor h small w (class_at of s) (omega (arith, alike.folding.classes s l, alike.small_lanes)) in
        subst (λ x. x ≤ℤ lane (successor h small w) (class_at of s)) (sym lower) (subst (λ x. arrived (bound g) (action_at g act) v s ≤ℤ x) (sym (upper ∙ same_bound (class_at of s)))
        (arrived_below (bound g) (action_at g act) (action_at h small) of (length a.states) (length q.states) high low alike.folding.classes first_of ups downs v w stands s));
    reached = λ c l.
        let r = arrived_reached (bound g) (action_at g act) (action_at h small) of (length a.states) (length q.states) high low alike.folding.classes first_of ups downs v w stands c l in
        let lower = lane_successor h small w c (omega (arith, l, alike.small_lanes)) in
        let upper = lane_successor g act v r.0 (omega (arith, r.1, alike.whole_lanes)) in
        (r.0, r.1, r.2, subst (λ x. x ≤ℤ lane (successor g act v) r.0) (sym (lower ∙ same_bound c)) (subst (λ x. arrived (bound g) (action_at h small) w c ≤ℤ x) (sym upper) r.3));
  }
    where
      act : ℕ
      act = action_of g own other

      small : ℕ
      small = action_of h own other

      move : Move
      move = record { own = own; other = other }

      letter_is : letter_of h.player h.inputs move ≡ letter_of g.player g.inputs move
      letter_is = ap (λ p. letter_of p h.inputs move) alike.player ∙ ap (λ i. letter_of g.player i move) alike.inputs

      same_bound : (p : ℕ) → arrived (bound h) (action_at h small) w p ≡ arrived (bound g) (action_at h small) w p
      same_bound p = ap (λ k. arrived (size_of k) (action_at h small) w p) alike.bounds

      high : length (action_at g act) ≡ length a.states
      high = height g alike.whole own other ∙ alike.whole_lanes

      low : length (action_at h small) ≡ length q.states
      low = height h alike.small own other ∙ alike.small_lanes

      row : (s p : ℕ) → s < length a.states → number (row_at (action_at g act) s) p ≡ edge_number (edges_at a s) (letter_of g.player g.inputs move) p
      row s p l = alike.whole_rows own other s p in_own in_other l

      small_row : (c p : ℕ) → c < length q.states → number (row_at (action_at h small) c) p ≡ edge_number (edges_at q c) (letter_of g.player g.inputs move) p
      small_row c p l =
          alike.small_rows own other c p (subst (λ w. own < 2 ^ w) (sym owns) in_own) (subst (λ w. other < 2 ^ w) (sym others) in_other) l ∙ ap (λ x. edge_number (edges_at q c) x p) letter_is

      ups : (s p : ℕ) → s < length a.states → number (row_at (action_at g act) s) p ≤ number (row_at (action_at h small) (class_at of s)) (class_at of p)
      ups s p l =
          let up = number_up a q of alike.folding alike.automaton s p (letter_of g.player g.inputs move) l in
          omega (arith, up, row s p l, small_row (class_at of s) (class_at of p) (alike.folding.classes s l))

      downs : (s d r : ℕ) → s < length a.states → number (row_at (action_at h small) (class_at of s)) d ≡ suc r
          → (p : ℕ) × (p < length a.states) × (class_at of p ≡ d) × (suc r ≤ number (row_at (action_at g act) s) p)
      downs s d r l e =
          let down = number_down a q of alike.folding alike.automaton s d (letter_of g.player g.inputs move) r l (sym (small_row (class_at of s) d (alike.folding.classes s l)) ∙ e) in
          (down.0, down.1, down.2, omega (arith, down.3, row s down.0 l))

  pub begins_stands : Stands (initial g) (initial h)
  begins_stands = record {
    long = size g ∙ alike.whole_lanes;
    short = size h ∙ alike.small_lanes;
    below = λ s l.
        let lower = at g s (omega (arith, l, alike.whole_lanes)) ∙ ap (λ i. begins i s) alike.whole_init in
        let upper = at h (class_at of s) (omega (arith, alike.folding.classes s l, alike.small_lanes)) ∙ ap (λ i. begins i (class_at of s)) (alike.small_init ∙ alike.folding.init) in
        subst (λ x. x ≤ℤ lane (initial h) (class_at of s)) (sym lower) (subst (λ x. begins a.init s ≤ℤ x) (sym upper) (begins_below of a.init s));
    reached = λ c l.
        let r = begins_reached of (length a.states) a.init c alike.automaton.begins (first_of c l) in
        let lower = at h c (omega (arith, l, alike.small_lanes)) ∙ ap (λ i. begins i c) (alike.small_init ∙ alike.folding.init) in
        let upper = at g r.0 (omega (arith, r.1, alike.whole_lanes)) ∙ ap (λ i. begins i r.0) alike.whole_init in
        (r.0, r.1, r.2, subst (λ x. x ≤ℤ lane (initial g) r.0) (sym lower) (subst (λ x. begins (option_map (class_at of) a.init) c ≤ℤ x) (sym upper) r.3));
  }
    where
      size : (g : GameData) → length (initial g) ≡ lanes g
      size g = length-map-range_with_len (begins g.init) 0 (lanes g)

      at : (g : GameData) (p : ℕ) → p < lanes g → lane (initial g) p ≡ begins g.init p
      at g p l = get_or-map-range_with_len (begins g.init) 0 (lanes g) p p (pos 0) l (omega arith)

  -- after the moves of a play the one stands for the other again
  pub stands_after : (m : MachineData) → IsMachine m → own_of m ≡ own_width g → other_of m ≡ other_width g
      → (moves : List Move) (s : ℕ) (v w : List ℤ) → s < length m.states → IsPlayFrom m s moves → Stands v w → Stands (after g v moves) (after h w moves)
  stands_after m is own_is other_is [] s v w in_s play stands = stands
  stands_after m is own_is other_is (move ∷ moves) s v w in_s play stands =
      let found = decided (IsLine (own_of m) (other_of m) (length m.states)) (lines_at m s) move.other (λ l. (move.own ≡ l.own) × IsPlayFrom m l.next moves) (is.ranged s [] in_s) play.1 in
      let in_own : move.own < 2 ^ own_width g = subst (λ w. move.own < 2 ^ w) own_is (subst (λ o. o < 2 ^ own_of m) (sym found.2.0) found.1.1) in
      let in_other : move.other < 2 ^ other_width g = subst (λ w. move.other < 2 ^ w) other_is play.0 in
      stands_after m is own_is other_is moves found.0.next (successor g (action_of g move.own move.other) v) (successor h (action_of h move.own move.other) w) found.1.2 found.2.1
      (stepped move.own move.other v w in_own in_other stands)

  bound_down : (v w : List ℤ) → Stands v w → InBound g v → InBound h w
  bound_down v w stands all c l =
      let r = stands.reached c (omega (arith, l, stands.short)) in
      subst (λ k. lane w c ≤ℤ k) (sym alike.bounds) (at_most (lane w c) (lane v r.0) g.k r.3 (all r.0 (omega (arith, r.1, stands.long))))

  bound_up : (v w : List ℤ) → Stands v w → InBound h w → InBound g v
  bound_up v w stands all s l =
      let m : s < length a.states = omega (arith, l, stands.long) in
      at_most (lane v s) (lane w (class_at of s)) g.k (stands.below s m)
      (subst (λ k. lane w (class_at of s) ≤ℤ k) alike.bounds (all (class_at of s) (omega (arith, alike.folding.classes s m, stands.short))))

  fits_down : (m : MachineData) → IsMachineOf g m → IsMachineOf h m
  fits_down m fits = record {
    machine = fits.machine;
    player = fits.player ∙ sym alike.player;
    kind = fits.kind ∙ sym alike.kind;
    inputs = fits.inputs ∙ sym alike.inputs;
    outputs = fits.outputs ∙ sym alike.outputs;
  }

  fits_up : (m : MachineData) → IsMachineOf h m → IsMachineOf g m
  fits_up m fits = record {
    machine = fits.machine;
    player = fits.player ∙ alike.player;
    kind = fits.kind ∙ alike.kind;
    inputs = fits.inputs ∙ alike.inputs;
    outputs = fits.outputs ∙ alike.outputs;
  }

  module _ (m : MachineData) (fits : IsMachineOf g m) where
    own_is : own_of m ≡ own_width g
    own_is = rw (fits.player, fits.inputs, fits.outputs) refl

    other_is : other_of m ≡ other_width g
    other_is = rw (fits.player, fits.inputs, fits.outputs) refl

    after_both : (moves : List Move) (v w : List ℤ) → IsPlayFrom m 0 moves → Stands v w → Stands (after g v moves) (after h w moves)
    after_both moves v w play stands = stands_after m fits.machine own_is other_is moves 0 v w fits.machine.begins play stands

  -- a vector is held in the whole game where the one that stands for it is held in the other
  pub held_down : (v w : List ℤ) → Stands v w → IsHeld g v → IsHeld h w
  held_down v w stands held = record {
    vector = record {
      same_length = stands.short ∙ sym alike.small_lanes;
      low = λ c l.
          let f = first_of c (omega (arith, l, stands.short)) in
          at_most (negsuc 0) (lane v f.0) (lane w c) (held.vector.low f.0 (omega (arith, f.1, stands.long))) (subst (λ d. lane v f.0 ≤ℤ lane w d) f.2 (stands.below f.0 f.1));
      high = bound_down v w stands held.vector.high;
    };
    machine = held.machine;
    fits = fits_down held.machine held.fits;
    keeps = λ moves play. bound_down (after g v moves) (after h w moves) (after_both held.machine held.fits moves v w play stands) (held.keeps moves play);
  }

  pub held_up : (v w : List ℤ) → Stands v w → ((s : ℕ) → s < length v → negsuc 0 ≤ℤ lane v s) → IsHeld h w → IsHeld g v
  held_up v w stands low held = record {
    vector = record {
      same_length = stands.long ∙ sym alike.whole_lanes;
      low = low;
      high = bound_up v w stands held.vector.high;
    };
    machine = held.machine;
    fits = fits_up held.machine held.fits;
    keeps = λ moves play. bound_up (after g v moves) (after h w moves) (after_both held.machine (fits_up held.machine held.fits) moves v w play stands) (held.keeps moves play);
  }

  -- each vector has one that stands for it, and each stands for one
  pub lifted_at : (w : List ℤ) (s : ℕ) → s < length a.states → lane (lifted of w) s ≡ lane w (class_at of s)
  lifted_at w s l = get_or-map (λ c. lane w c) of s 0 (pos 0) (omega (arith, l, alike.folding.each))

  pub lifted_stands : (w : List ℤ) → length w ≡ length q.states → Stands (lifted of w) w
  lifted_stands w size = record {
    long = length-map of (λ c. lane w c) ∙ alike.folding.each;
    short = size;
    below = λ s l. subst (λ x. x ≤ℤ lane w (class_at of s)) (sym (lifted_at w s l)) (least (lane w (class_at of s)));
    reached = λ c l.
        let f = first_of c l in
        (f.0, f.1, f.2, subst (λ x. lane w c ≤ℤ x) (sym (lifted_at w f.0 f.1 ∙ ap (lane w) f.2)) (least (lane w c)));
  }

  abbrev pub folded : List ℤ → List ℤ
  folded v = map (greatest of v) (range_with_len 0 (length q.states))

  pub folded_stands : (v : List ℤ) → length v ≡ length a.states → ((s : ℕ) → s < length v → negsuc 0 ≤ℤ lane v s) → Stands v (folded v)
  folded_stands v size low = record {
    long = size;
    short = length-map-range_with_len (greatest of v) 0 (length q.states);
    below = λ s l.
        subst (λ x. lane v s ≤ℤ x) (sym (at (class_at of s) (alike.folding.classes s l))) (greatest_above of v (class_at of s) s (omega (arith, l, alike.folding.each)) (omega (arith, l, size)) refl);
    reached = λ c l. by c l (greatest_from of v c);
  }
    where
      at : (c : ℕ) → c < length q.states → lane (folded v) c ≡ greatest of v c
      at c l = get_or-map-range_with_len (greatest of v) 0 (length q.states) c c (pos 0) l (omega arith)

      by : (c : ℕ) → c < length q.states → (greatest of v c ≡ negsuc 0) ⊎ IsReached of v c (greatest of v c) → (s : ℕ) × (s < length a.states) × (class_at of s ≡ c) × (lane (folded v) c ≤ℤ lane v s)
      by c l (inl e) =
          let f = first_of c l in
          (f.0, f.1, f.2, subst (λ x. x ≤ℤ lane v f.0) (sym (at c l ∙ e)) (low f.0 (omega (arith, f.1, size))))
      by c l (inr r) = (r.state, omega (arith, r.within, alike.folding.each), r.class, subst (λ x. x ≤ℤ lane v r.state) (sym (at c l)) r.large)

  -- what stands for a vector is at or below another one exactly where the vector is at or below that one lifted
  pub below_up : (v w e : List ℤ) → Stands v w → AtOrBelow w e → AtOrBelow v (lifted of e)
  below_up v w e stands below = record {
    same_length = stands.long ∙ sym (length-map of (λ c. lane e c) ∙ alike.folding.each);
    below = λ s l.
        let m : s < length a.states = omega (arith, l, stands.long) in
        subst (λ x. lane v s ≤ℤ x) (sym (lifted_at e s m))
        (at_most (lane v s) (lane w (class_at of s)) (lane e (class_at of s)) (stands.below s m) (below.below (class_at of s) (omega (arith, alike.folding.classes s m, stands.short))));
  }

  pub below_down : (v w e : List ℤ) → Stands v w → length e ≡ length q.states → AtOrBelow v (lifted of e) → AtOrBelow w e
  below_down v w e stands size below = record {
    same_length = stands.short ∙ sym size;
    below = λ c l.
        let r = stands.reached c (omega (arith, l, stands.short)) in
        at_most (lane w c) (lane v r.0) (lane e c) r.3
        (subst (λ x. lane v r.0 ≤ℤ x) (lifted_at e r.0 r.1 ∙ ap (lane e) r.2) (below.below r.0 (omega (arith, r.1, stands.long))));
  }
