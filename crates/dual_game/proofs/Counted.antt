-- A machine that keeps each lane at most at the bound keeps the bound on the automaton whose numbers the game has.
use Rattle.std.proofs.Common.{◌≡◌, ℕ, zero, suc, ◌+◌, ◌^◌, ◌<◌, ◌≤◌, Bool, true, false, ◌&&◌, cond, min, max, nat_eq, List, [], ◌∷◌, length, map, get_or, Option, Some, None, refl, sym, ◌∙◌, ap, subst, arith}
use Rattle.std.specs.Prelude.{ℤ, pos, negsuc, ◌≤ℤ◌, if◌then◌else◌}
use Rattle.std.specs.Int.{int_max}
use Rattle.std.specs.Option.{IsSomeAnd, IfSome, MatchOption}
use Rattle.std.specs.List.{All, Contains}
use Rattle.std.proofs.lemmas.Int.{ints}
use Rattle.std.proofs.lemmas.Nat.{div-add-mod', div-mul-add, mod-mul-add}
use Rattle.std.proofs.lemmas.List.FromFn.{get_or-map-range_with_len, length-map-range_with_len}
use Rattle.word_core.specs.declared.automata.Edge.{Edge}
use Rattle.word_core.specs.declared.machines.Line.{Line}
use Rattle.word_core.specs.declared.names.Player.{Player}
use Rattle.word_core.specs.declared.names.Player.TheVariants.{System, Environment}
use Rattle.word_core.specs.Automaton.{AutomatonData, IsAutomaton, IsEdge, edges_at}
use Rattle.word_core.specs.Cube.{holds}
use Rattle.word_core.specs.Machine as machine
use Rattle.word_core.specs.Machine.{MachineData, IsMachine, IsLine, choice, lines_at, own_of, other_of}
use Rattle.word_core.specs.Play.{Move, IsPlayFrom, letter_of, move_of}
use Rattle.word_core.proofs.TreeLabels.{label_of-all}
use Rattle.word_core.specs.Run.{IsRunFrom, count}
use Rattle.game_form.specs.declared.actions.Step.{Step}
use Rattle.game_form.specs.Game as game
use Rattle.game_form.specs.Game.{GameData, IsGame, lanes, action_at, action_of, row_at, own_width, other_width}
use Rattle.game_form.specs.Vector.{lane, number, brought, arrived, successor, bound, begins, initial}
use Rattle.game_form.specs.Held.{after}
use Rattle.dual_game.specs.Counting.{CountingIsSound, IsRunTo, end_of}
use Rattle.action_groups.specs.Numbers.{mark_number}
use Rattle.action_groups.specs.Rows.{edge_number, HasRows}

-- what a marked edge adds to a count
abbrev pub mark : Edge → ℕ
mark e = if e.marked then 1 else 0

at_least_max : (a b c : ℕ) → a ≤ b → a ≤ max b c
at_least_max a b c h = omega arith

at_most_max : (a b c : ℕ) → a ≤ c → a ≤ max b c
at_most_max a b c h = omega arith

pub number_of_mark : (b : Bool) → mark_number b ≡ suc (if b then 1 else 0)
number_of_mark true = refl
number_of_mark false = refl

-- an edge of the list that holds the letter counts
pub edge_counts : (es : List Edge) (e : Edge) (x k : ℕ) → k < length es → get_or es k e ≡ e → holds e.cube x ≡ true → mark_number e.marked ≤ edge_number es x e.next
edge_counts [] e x k lt is h = absurd (omega arith)
edge_counts (f ∷ es) e x zero lt is h =
    at_least_max (mark_number e.marked) _ _ (subst (λ (d : Edge). mark_number e.marked ≤ (if holds d.cube x && nat_eq d.next e.next then mark_number d.marked else 0)) (sym is) (here (holds e.cube x) h))
  where
    same : (n : ℕ) → nat_eq n n ≡ true
    same n = grind (arith)

    here : (b : Bool) → b ≡ true → mark_number e.marked ≤ (if b && nat_eq e.next e.next then mark_number e.marked else 0)
    here b t = subst (λ c. mark_number e.marked ≤ (if c && nat_eq e.next e.next then mark_number e.marked else 0)) (sym t)
        (subst (λ c. mark_number e.marked ≤ (if c then mark_number e.marked else 0)) (sym (same e.next)) (omega arith))
edge_counts (f ∷ es) e x (suc k) lt is h = at_most_max (mark_number e.marked) _ _ (edge_counts es e x k (omega arith) is h)

-- what one lane brings arrives
at_least : (x y z : ℤ) → x ≤ℤ y → x ≤ℤ int_max y z
at_least x y z h = grind (arith, ints)

at_last : (x y z : ℤ) → x ≤ℤ z → x ≤ℤ int_max y z
at_last x y z h = grind (arith, ints)

pub arrives : (k : ℕ) (rows : List (List Step)) (v : List ℤ) (q p : ℕ) (x : ℤ) → q < length rows → q < length v → x ≤ℤ brought k (lane v q) (number (row_at rows q) p) → x ≤ℤ arrived k rows v p
arrives k [] v q p x lr lv h = absurd (omega arith)
arrives k (r ∷ rows) [] q p x lr lv h = absurd (omega arith)
arrives k (r ∷ rows) (y ∷ v) zero p x lr lv h = at_least _ _ _ h
arrives k (r ∷ rows) (y ∷ v) (suc q) p x lr lv h = at_last _ _ _ (arrives k rows v q p x (omega arith) (omega arith) h)

-- a number in a lane is brought with what the marks add, up to the bound and one more
brings : (k c d : ℕ) (x : ℤ) (r : ℕ) → pos (min (k + 1) c) ≤ℤ x → suc d ≤ r → pos (min (k + 1) (c + d)) ≤ℤ brought k x r
brings k c d (negsuc n) r h l = absurd (impossible n h)
  where
    impossible : (n : ℕ) → pos (min (k + 1) c) ≤ℤ negsuc n → ⊥
    impossible n h = grind (arith, ints)
brings k c d (pos n) zero h l = absurd (omega arith)
brings k c d (pos n) (suc r) h l = lifted (min (k + 1) (c + d)) (min (k + 1) (n + r)) (sums (lowered (min (k + 1) c) n h))
  where
    lowered : (a b : ℕ) → pos a ≤ℤ pos b → a ≤ b
    lowered a b h = grind (arith, ints)

    lifted : (a b : ℕ) → a ≤ b → pos a ≤ℤ pos b
    lifted a b h = grind (arith, ints)

    sums : min (k + 1) c ≤ n → min (k + 1) (c + d) ≤ min (k + 1) (n + r)
    sums h = omega arith

-- the move of a letter of a move, and the letter of a move of a letter
pub move_again : (p : Player) (inputs outputs own other : ℕ) → own < 2 ^ machine.own_width p inputs outputs → other < 2 ^ machine.other_width p inputs outputs
    → move_of p inputs (letter_of p inputs (record { own = own; other = other })) ≡ record { own = own; other = other }
move_again System inputs outputs own other in_own in_other = rw (div-mul-add own (2 ^ inputs) other in_other, mod-mul-add own (2 ^ inputs) other in_other) refl
move_again Environment inputs outputs own other in_own in_other = rw (div-mul-add other (2 ^ inputs) own in_own, mod-mul-add other (2 ^ inputs) own in_own) refl

pub letter_again : (player : Player) (inputs x : ℕ) → letter_of player inputs (move_of player inputs x) ≡ x
letter_again System inputs x = div-add-mod' x (2 ^ inputs)
letter_again Environment inputs x = div-add-mod' x (2 ^ inputs)

-- the line that decides, with what is known of every line
pub decided : (P : Line → Type 0) (lines : List Line) (x : ℕ) (Q : Line → Type 0) → All P lines → MatchOption (choice lines x) ⊥ Q → (l : Line) × P l × Q l
decided P [] x Q all h = absurd h
decided P (l ∷ ls) x Q all h = go (decided P ls x Q tail) (holds l.when x) h
  where
    tail : All P ls
    tail k d lt = all (suc k) d (omega arith)

    go : (MatchOption (choice ls x) ⊥ Q → (l : Line) × P l × Q l) → (b : Bool) → MatchOption (cond b (Some l) (choice ls x)) ⊥ Q → (l : Line) × P l × Q l
    go rest true h = (l, all 0 l (omega arith), h)
    go rest false h = rest h

pub length_successor : (g : GameData) (act : ℕ) (v : List ℤ) → length (successor g act v) ≡ lanes g
length_successor g act v = length-map-range_with_len (arrived (bound g) (action_at g act) v) 0 (lanes g)

pub lane_successor : (g : GameData) (act : ℕ) (v : List ℤ) (p : ℕ) → p < lanes g → lane (successor g act v) p ≡ arrived (bound g) (action_at g act) v p
lane_successor g act v p lt =
    let size = length_successor g act v in
    get_or-map-range_with_len (arrived (bound g) (action_at g act) v) 0 (lanes g) p p (pos 0) (omega arith) (omega arith)

-- the moves of letters
abbrev pub moves_of : GameData → List ℕ → List Move
moves_of g letters = map (move_of g.player g.inputs) letters

-- no valuation has a bit past its side's signals
pub record IsInGame (g : GameData) (x : ℕ) : Type 0 where
  pub own : (move_of g.player g.inputs x).own < 2 ^ own_width g
  pub other : (move_of g.player g.inputs x).other < 2 ^ other_width g

-- the number of a lane at the beginning
pub lane_initial : (g : GameData) (p : ℕ) → p < lanes g → lane (initial g) p ≡ begins g.init p
lane_initial g p in_p = get_or-map-range_with_len (begins g.init) 0 (lanes g) p p (pos 0) in_p (omega arith)

pub length_initial : (g : GameData) → length (initial g) ≡ lanes g
length_initial g = length-map-range_with_len (begins g.init) 0 (lanes g)

pub begins_here : (q : ℕ) → begins (Some q) q ≡ pos 0
begins_here q = subst (λ b. cond b (pos 0) (negsuc 0) ≡ pos 0) (sym (same q)) refl
  where
    same : (n : ℕ) → nat_eq n n ≡ true
    same n = grind (arith)

module _ (a : AutomatonData) (g : GameData) (known : IsGame g) (well : IsAutomaton a) (rows : HasRows a g) (lanes_are : lanes g ≡ length a.states) where
  -- a lane has a count, up to the bound and one more
  abbrev HasCount : List ℤ → ℕ → ℕ → Type 0
  HasCount v q c = pos (min (bound g + 1) c) ≤ℤ lane v q

  action_within : (own other : ℕ) → action_of g own other < length g.actions
  action_within own other = label_of-all (λ l. l < length g.actions) g.letters known.letters.tree known.letters.labels (game.letter_of g own other)

  height : (own other : ℕ) → length (action_at g (action_of g own other)) ≡ lanes g
  height own other = (known.actions (action_of g own other) (action_within own other)).height

  -- an edge that holds the letter takes the count on
  stepped : (v : List ℤ) (q c : ℕ) (e : Edge) (own other x : ℕ) → x ≡ letter_of g.player g.inputs (record { own = own; other = other }) → own < 2 ^ own_width g → other < 2 ^ other_width g → length v ≡ lanes g
      → q < length a.states → e.next < length a.states → HasCount v q c → Contains (edges_at a q) e → holds e.cube x ≡ true → HasCount (successor g (action_of g own other) v) e.next (c + mark e)
  stepped v q c e own other x x_is in_own in_other long in_q in_next has edge held =
      subst (λ z. pos (min (bound g + 1) (c + mark e)) ≤ℤ z) (sym (lane_successor g act v e.next (subst (λ n. e.next < n) (sym lanes_are) in_next)))
      (arrives (bound g) (action_at g act) v q e.next _ (subst (λ n. q < n) (sym (height own other ∙ lanes_are)) in_q) (subst (λ n. q < n) (sym (long ∙ lanes_are)) in_q)
      (brings (bound g) c (mark e) (lane v q) (number (row_at (action_at g act) q) e.next) has large))
    where
      act : ℕ
      act = action_of g own other

      number_is : number (row_at (action_at g act) q) e.next ≡ edge_number (edges_at a q) x e.next
      number_is = rows own other q e.next in_own in_other in_q ∙ ap (λ y. edge_number (edges_at a q) y e.next) (sym x_is)

      large : suc (mark e) ≤ number (row_at (action_at g act) q) e.next
      large =
          subst (λ n. suc (mark e) ≤ n) (sym number_is)
          (subst (λ n. n ≤ edge_number (edges_at a q) x e.next) (number_of_mark e.marked) (edge_counts (edges_at a q) e x edge.0 edge.1 edge.2 held))

  -- where a run leads, the lane has the run's count
  pub counted : (letters : List ℕ) (edges : List Edge) (q c : ℕ) (v : List ℤ) → All (IsInGame g) letters → q < length a.states → length v ≡ lanes g → HasCount v q c → IsRunFrom a q letters edges
      → (end_of q edges < length a.states) × (length (after g v (moves_of g letters)) ≡ lanes g) × HasCount (after g v (moves_of g letters)) (end_of q edges) (c + count edges)
  counted [] [] q c v inside in_q long has run = (in_q, long, subst (λ n. HasCount v q n) (unary c) has)
    where
      unary : (c : ℕ) → c ≡ c + 0
      unary c = omega arith
  counted [] (e ∷ edges) q c v inside in_q long has run = absurd run
  counted (x ∷ letters) [] q c v inside in_q long has run = absurd run
  counted (x ∷ letters) (e ∷ edges) q c v inside in_q long has run =
      let move = move_of g.player g.inputs x in
      let in_move : IsInGame g x = inside 0 x (omega arith) in
      let in_next : e.next < length a.states = (edge_within q e in_q run.0).1 in
      let act = action_of g move.own move.other in
      let rest = counted letters edges e.next (c + mark e) (successor g act v) (λ k d lt. inside (suc k) d (omega arith)) in_next (length_successor g act v)
      (stepped v q c e move.own move.other x (sym (letter_again g.player g.inputs x)) in_move.own in_move.other long in_q in_next has run.0 run.1) run.2 in
      (rest.0, rest.1, subst (λ n. HasCount (after g (successor g act v) (moves_of g letters)) (end_of e.next edges) n) (sums c (mark e) (count edges)) rest.2)
    where
      sums : (c d n : ℕ) → (c + d) + n ≡ c + (d + n)
      sums c d n = omega arith

      edge_within : (q : ℕ) (e : Edge) → q < length a.states → Contains (edges_at a q) e → IsEdge a.signals (length a.states) e
      edge_within q e in_q edge = subst (IsEdge a.signals (length a.states)) edge.2 (well.ranged q [] in_q edge.0 e edge.1)

  -- after letters the lane in which a run ends has at least its count
  pub counted_from_first : (begun : g.init ≡ a.init) (letters : List ℕ) (edges : List Edge) (p : ℕ) → All (IsInGame g) letters → IsRunTo a letters p edges
      → (p < lanes g) × (length (after g (initial g) (moves_of g letters)) ≡ lanes g) × HasCount (after g (initial g) (moves_of g letters)) p (count edges)
  counted_from_first begun letters edges p inside run = from a.init refl run
    where
      zero_least : (n : ℕ) → pos (min n 0) ≤ℤ pos 0
      zero_least n = grind (arith, ints)

      from_zero : (n : ℕ) → 0 + n ≡ n
      from_zero n = omega arith

      from : (i : Option ℕ) → a.init ≡ i → IsSomeAnd i (λ q. IsRunFrom a q letters edges × (end_of q edges ≡ p))
          → (p < lanes g) × (length (after g (initial g) (moves_of g letters)) ≡ lanes g) × HasCount (after g (initial g) (moves_of g letters)) p (count edges)
      from None e h = absurd h
      from (Some q) e h =
          let in_q : q < length a.states = subst (λ i. IfSome i (λ q. q < length a.states)) e well.begins in
          let lane_is : lane (initial g) q ≡ pos 0 = lane_initial g q (subst (λ n. q < n) (sym lanes_are) in_q) ∙ ap (λ i. begins i q) (begun ∙ e) ∙ begins_here q in
          let first : HasCount (initial g) q 0 = subst (λ z. pos (min (bound g + 1) 0) ≤ℤ z) (sym lane_is) (zero_least (bound g + 1)) in
          let r = counted letters edges q 0 (initial g) inside in_q (length_initial g) first h.0 in (
            subst (λ n. n < lanes g) h.1 (subst (λ n. end_of q edges < n) (sym lanes_are) r.0),
            r.1,
            subst (λ n. HasCount (after g (initial g) (moves_of g letters)) n (count edges)) h.1 (subst (λ n. HasCount (after g (initial g) (moves_of g letters)) (end_of q edges) n) (from_zero (count edges)) r.2),
          )

module _ (g : GameData) (m : MachineData) (is : IsMachine m) (owns : own_of m ≡ own_width g) (others : other_of m ≡ other_width g) (player : m.player ≡ g.player) (inputs : m.inputs ≡ g.inputs) where
  pub same_moves : (letters : List ℕ) → map (move_of m.player m.inputs) letters ≡ moves_of g letters
  same_moves letters = ap (λ p. map (move_of p m.inputs) letters) player ∙ ap (λ i. map (move_of g.player i) letters) inputs

  -- the letters of a play are the game's
  pub played_inside : (letters : List ℕ) (s : ℕ) → s < length m.states → IsPlayFrom m s (moves_of g letters) → All (IsInGame g) letters
  played_inside [] s in_s play = λ k d lt. absurd (omega arith)
  played_inside (x ∷ letters) s in_s play = both here (played_inside letters found.0.next found.1.2 found.2.1)
    where
      move : Move
      move = move_of g.player g.inputs x

      found : (l : Line) × IsLine (own_of m) (other_of m) (length m.states) l × ((move.own ≡ l.own) × IsPlayFrom m l.next (moves_of g letters))
      found = decided (IsLine (own_of m) (other_of m) (length m.states)) (lines_at m s) move.other (λ l. (move.own ≡ l.own) × IsPlayFrom m l.next (moves_of g letters)) (is.ranged s [] in_s) play.1

      here : IsInGame g x
      here = record {
        own = subst (λ w. move.own < 2 ^ w) owns (subst (λ o. o < 2 ^ own_of m) (sym found.2.0) found.1.1);
        other = subst (λ w. move.other < 2 ^ w) others play.0;
      }

      both : IsInGame g x → All (IsInGame g) letters → All (IsInGame g) (x ∷ letters)
      both h t zero d lt = h
      both h t (suc k) d lt = t k d (omega arith)

pub counting_is_sound : CountingIsSound
counting_is_sound a g m k counts bounded fits keeps letters edges play run = by a.init refl run
  where
    owns : own_of m ≡ own_width g
    owns = rw (fits.player, fits.inputs, fits.outputs) refl

    others : other_of m ≡ other_width g
    others = rw (fits.player, fits.inputs, fits.outputs) refl

    moves_play : IsPlayFrom m 0 (moves_of g letters)
    moves_play = subst (IsPlayFrom m 0) (same_moves g m fits.machine owns others fits.player fits.inputs letters) play

    at_most : (x y z : ℤ) → x ≤ℤ y → y ≤ℤ z → x ≤ℤ z
    at_most x y z h k = grind (arith, ints)

    low : (n : ℕ) → pos (min (bound g + 1) n) ≤ℤ g.k → n ≤ k
    low n h = small (bound g) k n (ap size bounded) (subst (λ z. pos (min (bound g + 1) n) ≤ℤ z) bounded h)
      where
        size : ℤ → ℕ
        size (pos n) = n
        size (negsuc n) = 0

        small : (b k n : ℕ) → b ≡ k → pos (min (b + 1) n) ≤ℤ pos k → n ≤ k
        small b k n e h = grind (arith, ints)

    by : (i : Option ℕ) → a.init ≡ i → IsSomeAnd i (λ q. IsRunFrom a q letters edges) → count edges ≤ k
    by None e h = absurd h
    by (Some q) e h =
        let inside = played_inside g m fits.machine owns others fits.player fits.inputs letters 0 fits.machine.begins moves_play in
        let to : IsRunTo a letters (end_of q edges) edges = subst (λ i. IsSomeAnd i (λ q'. IsRunFrom a q' letters edges × (end_of q' edges ≡ end_of q edges))) (sym e) (h, refl) in
        let r = counted_from_first a g counts.game counts.automaton counts.rows counts.lanes_are counts.first letters edges (end_of q edges) inside to in
        low (count edges) (at_most _ _ _ r.2 (keeps (moves_of g letters) moves_play (end_of q edges) (subst (λ n. end_of q edges < n) (sym r.1) r.0)))
