-- Where a lane has a number, some run that ends there has that count. So lanes are greatest counts.
use Rattle.std.proofs.Common.{◌≡◌, ℕ, zero, suc, ◌+◌, ◌*◌, ◌/◌, ◌%◌, ◌^◌, ◌<◌, ◌≤◌, ◌⊎◌, inl, inr, Bool, true, false, ◌&&◌, cond, min, max, nat_eq, List, [], ◌∷◌, length, map, get_or, Option, Some, None, refl, sym, ◌∙◌, ap, subst, arith}
use Rattle.std.proofs.lemmas.Bool.{and_parts}
use Rattle.std.specs.Prelude.{ℤ, pos, negsuc, ◌≤ℤ◌, if◌then◌else◌}
use Rattle.std.specs.Int.{int_max}
use Rattle.std.specs.Option.{IsSomeAnd}
use Rattle.std.specs.List.{All, Contains}
use Rattle.std.proofs.lemmas.Int.{ints}
use Rattle.std.proofs.lemmas.Nat.{div_below, mod_below, pow-add, pow_pos}
use Rattle.word_core.specs.declared.automata.Edge.{Edge}
use Rattle.word_core.specs.declared.names.Player.{Player}
use Rattle.word_core.specs.declared.names.Player.TheVariants.{System, Environment}
use Rattle.word_core.specs.Automaton.{AutomatonData, edges_at}
use Rattle.word_core.specs.Cube.{holds}
use Rattle.word_core.specs.Machine.{MachineData, IsMachine, IsLine, lines_at, own_of, other_of}
use Rattle.word_core.specs.Play.{Move, IsPlayFrom, letter_of, move_of}
use Rattle.word_core.specs.Run.{IsRunFrom, count}
use Rattle.game_form.specs.declared.actions.Step.{Step}
use Rattle.game_form.specs.Game.{GameData, lanes, action_at, action_of, row_at, own_width, other_width}
use Rattle.game_form.specs.Vector.{lane, number, brought, arrived, successor, bound, begins, initial}
use Rattle.game_form.specs.Held.{after}
use Rattle.action_groups.specs.Numbers.{mark_number}
use Rattle.action_groups.specs.Rows.{edge_number, HasRows}
use Rattle.dual_game.specs.Counting.{CountingIsExact, IsGreatestCount, IsRunTo, LanesAreCounts, end_of}
use Rattle.dual_game.proofs.Counted.{IsInGame, counted_from_first, decided, lane_initial, lane_successor, length_initial, length_successor, letter_again, mark, move_again, moves_of, number_of_mark, played_inside, same_moves}

-- the greatest number is that of an edge
pub record IsTaken (es : List Edge) (x p r : ℕ) : Type 0 where
  pub edge : Edge
  pub contained : Contains es edge
  pub held : holds edge.cube x ≡ true
  pub next : edge.next ≡ p
  pub marks : mark edge ≡ r

pub edge_taken : (es : List Edge) (x p r : ℕ) → edge_number es x p ≡ suc r → IsTaken es x p r
edge_taken [] x p r h = absurd (omega arith)
edge_taken (e ∷ es) x p r h = go (holds e.cube x && nat_eq e.next p) refl (edge_taken es x p r) (larger (if holds e.cube x && nat_eq e.next p then mark_number e.marked else 0) (edge_number es x p) h)
  where
    larger : (a b : ℕ) → max a b ≡ suc r → (a ≡ suc r) ⊎ (b ≡ suc r)
    larger a b h = grind (arith)

    behind : IsTaken es x p r → IsTaken (e ∷ es) x p r
    behind t = record { edge = t.edge; contained = (suc t.contained.0, omega (arith, t.contained.1), t.contained.2); held = t.held; next = t.next; marks = t.marks }

    equal : (m n : ℕ) → nat_eq m n ≡ true → m ≡ n
    equal m n h = grind (arith)

    first : (b : Bool) → b ≡ (holds e.cube x && nat_eq e.next p) → b ≡ true → mark_number e.marked ≡ suc r → IsTaken (e ∷ es) x p r
    first b is t m =
        let both = and_parts (holds e.cube x) (nat_eq e.next p) (sym is ∙ t) in
        record { edge = e; contained = (zero, omega arith, refl); held = both.0; next = equal e.next p both.1; marks = less (mark e) r (sym (number_of_mark e.marked) ∙ m) }
      where
        less : (m n : ℕ) → suc m ≡ suc n → m ≡ n
        less m n h = omega arith

    go : (b : Bool) → b ≡ (holds e.cube x && nat_eq e.next p) → (edge_number es x p ≡ suc r → IsTaken es x p r) → ((if b then mark_number e.marked else 0) ≡ suc r) ⊎ (edge_number es x p ≡ suc r) → IsTaken (e ∷ es) x p r
    go true is rest (inl m) = first true is refl m
    go true is rest (inr m) = behind (rest m)
    go false is rest (inl m) = absurd (omega arith)
    go false is rest (inr m) = behind (rest m)

-- what arrives is what some lane brings
pub arrived_from : (k : ℕ) (rows : List (List Step)) (v : List ℤ) (p n : ℕ) → arrived k rows v p ≡ pos n
    → (q : ℕ) × (q < length rows) × (q < length v) × (brought k (lane v q) (number (row_at rows q) p) ≡ pos n)
arrived_from k [] v p n h = absurd (cc)
arrived_from k (r ∷ rows) [] p n h = absurd (cc)
arrived_from k (r ∷ rows) (y ∷ v) p n h = go (arrived_from k rows v p n) (larger (brought k y (number r p)) (arrived k rows v p) h)
  where
    larger : (b c : ℤ) → int_max b c ≡ pos n → (b ≡ pos n) ⊎ (c ≡ pos n)
    larger b c h = grind (arith, ints)

    go : (arrived k rows v p ≡ pos n → (q : ℕ) × (q < length rows) × (q < length v) × (brought k (lane v q) (number (row_at rows q) p) ≡ pos n))
        → (brought k y (number r p) ≡ pos n) ⊎ (arrived k rows v p ≡ pos n)
        → (q : ℕ) × (q < length (r ∷ rows)) × (q < length (y ∷ v)) × (brought k (lane (y ∷ v) q) (number (row_at (r ∷ rows) q) p) ≡ pos n)
    go rest (inl b) = (zero, omega arith, omega arith, b)
    go rest (inr c) = let f = rest c in (suc f.0, omega (arith, f.1), omega (arith, f.2), f.3)

pub record IsBrought (x : ℤ) (number n : ℕ) : Type 0 where
  pub count : ℕ
  pub more : ℕ
  pub lane_is : x ≡ pos count
  pub number_is : number ≡ suc more
  pub most : n ≤ count + more

pub brought_from : (k : ℕ) (x : ℤ) (r n : ℕ) → brought k x r ≡ pos n → IsBrought x r n
brought_from k (negsuc c) r n h = absurd (cc)
brought_from k (pos c) zero n h = absurd (cc)
brought_from k (pos c) (suc r) n h = record { count = c; more = r; lane_is = refl; number_is = refl; most = small (min (k + 1) (c + r)) n (c + r) h (below (k + 1) (c + r)) }
  where
    below : (a b : ℕ) → min a b ≤ b
    below a b = omega arith

    small : (a n b : ℕ) → pos a ≡ pos n → a ≤ b → n ≤ b
    small a n b h l = grind (arith, ints)

-- a number of a lane: from -1 to the bound and one more
pub record IsLaneNumber (k : ℕ) (x : ℤ) : Type 0 where
  pub low : (n : ℕ) → x ≡ negsuc n → n ≡ 0
  pub high : (n : ℕ) → x ≡ pos n → n ≤ k + 1

brought_number : (k : ℕ) (x : ℤ) (r : ℕ) → IsLaneNumber k (brought k x r)
brought_number k (negsuc m) r = record { low = λ n h. nothing n h; high = λ n h. absurd (cc) }
  where
    nothing : (n : ℕ) → negsuc 0 ≡ negsuc n → n ≡ 0
    nothing n h = grind (arith, ints)
brought_number k (pos m) zero = record { low = λ n h. nothing n h; high = λ n h. absurd (cc) }
  where
    nothing : (n : ℕ) → negsuc 0 ≡ negsuc n → n ≡ 0
    nothing n h = grind (arith, ints)
brought_number k (pos m) (suc r) = record { low = λ n h. absurd (cc); high = λ n h. small (min (k + 1) (m + r)) n h (least (k + 1) (m + r)) }
  where
    least : (a b : ℕ) → min a b ≤ a
    least a b = omega arith

    small : (a n : ℕ) → pos a ≡ pos n → a ≤ k + 1 → n ≤ k + 1
    small a n h l = grind (arith, ints)

arrived_number : (k : ℕ) (rows : List (List Step)) (v : List ℤ) (p : ℕ) → IsLaneNumber k (arrived k rows v p)
arrived_number k [] v p = brought_number k (negsuc 0) 0
arrived_number k (r ∷ rows) [] p = brought_number k (negsuc 0) 0
arrived_number k (r ∷ rows) (y ∷ v) p = larger (brought k y (number r p)) (arrived k rows v p) (brought_number k y (number r p)) (arrived_number k rows v p)
  where
    either : (b c : ℤ) → (int_max b c ≡ b) ⊎ (int_max b c ≡ c)
    either b c = grind (arith, ints)

    larger : (b c : ℤ) → IsLaneNumber k b → IsLaneNumber k c → IsLaneNumber k (int_max b c)
    larger b c hb hc = by (either b c)
      where
        by : (int_max b c ≡ b) ⊎ (int_max b c ≡ c) → IsLaneNumber k (int_max b c)
        by (inl e) = subst (IsLaneNumber k) (sym e) hb
        by (inr e) = subst (IsLaneNumber k) (sym e) hc

begins_number : (k : ℕ) (init : Option ℕ) (p : ℕ) → IsLaneNumber k (begins init p)
begins_number k None p = brought_number k (negsuc 0) 0
begins_number k (Some first) p = by (nat_eq first p)
  where
    none : (n : ℕ) → pos 0 ≡ pos n → n ≤ k + 1
    none n h = grind (arith, ints)

    by : (b : Bool) → IsLaneNumber k (cond b (pos 0) (negsuc 0))
    by true = record { low = λ n h. absurd (cc); high = λ n h. none n h }
    by false = brought_number k (negsuc 0) 0

pub begins_at : (i : Option ℕ) (p c : ℕ) → begins i p ≡ pos c → (i ≡ Some p) × (c ≡ 0)
begins_at None p c h = absurd (cc)
begins_at (Some f) p c h = chosen (nat_eq f p) refl h
  where
    equal : (m n : ℕ) → nat_eq m n ≡ true → m ≡ n
    equal m n h = grind (arith)

    nothing : (c : ℕ) → pos 0 ≡ pos c → c ≡ 0
    nothing c h = grind (arith, ints)

    chosen : (b : Bool) → nat_eq f p ≡ b → cond b (pos 0) (negsuc 0) ≡ pos c → (Some f ≡ Some p) × (c ≡ 0)
    chosen true e h = (ap Some (equal f p e), nothing c h)
    chosen false e h = absurd (cc)

module _ (a : AutomatonData) (g : GameData) (rows : HasRows a g) (lanes_are : lanes g ≡ length a.states) where
  -- a run on letters from a lane's number, ending in p, to at least a count
  pub record IsReached (v : List ℤ) (letters : List ℕ) (p n : ℕ) : Type 0 where
    pub start : ℕ
    pub within : start < lanes g
    pub first : ℕ
    pub lane_is : lane v start ≡ pos first
    pub edges : List Edge
    pub run : IsRunFrom a start letters edges
    pub ends : end_of start edges ≡ p
    pub most : n ≤ first + count edges

  pub reached : (letters : List ℕ) (v : List ℤ) (p n : ℕ) → All (IsInGame g) letters → length v ≡ lanes g → p < lanes g → lane (after g v (moves_of g letters)) p ≡ pos n → IsReached v letters p n
  reached [] v p n inside long in_p h = record { start = p; within = in_p; first = n; lane_is = h; edges = []; run = tt; ends = refl; most = omega arith }
  reached (x ∷ letters) v p n inside long in_p h =
      let move = move_of g.player g.inputs x in
      let in_move : IsInGame g x = inside 0 x (omega arith) in
      let act = action_of g move.own move.other in
      let rest = reached letters (successor g act v) p n (λ k d lt. inside (suc k) d (omega arith)) (length_successor g act v) in_p h in
      let from = arrived_from (bound g) (action_at g act) v rest.start rest.first (sym (lane_successor g act v rest.start rest.within) ∙ rest.lane_is) in
      let in_q : from.0 < lanes g = subst (λ l. from.0 < l) long from.2 in
      let lifted = brought_from (bound g) (lane v from.0) (number (row_at (action_at g act) from.0) rest.start) rest.first from.3 in
      let taken = edge_taken (edges_at a from.0) x rest.start lifted.more
      (ap (λ y. edge_number (edges_at a from.0) y rest.start) (sym (letter_again g.player g.inputs x))
      ∙ sym (rows move.own move.other from.0 rest.start in_move.own in_move.other (subst (λ l. from.0 < l) lanes_are in_q)) ∙ lifted.number_is) in
      record {
        start = from.0;
        within = in_q;
        first = lifted.count;
        lane_is = lifted.lane_is;
        edges = taken.edge ∷ rest.edges;
        run = (taken.contained, taken.held, subst (λ q. IsRunFrom a q letters rest.edges) (sym taken.next) rest.run);
        ends = ap (λ q. end_of q rest.edges) taken.next ∙ rest.ends;
        most = sums n rest.first (count rest.edges) lifted.count lifted.more (mark taken.edge) rest.most lifted.most taken.marks;
      }
    where
      sums : (n f c b r d : ℕ) → n ≤ f + c → f ≤ b + r → d ≡ r → n ≤ b + (d + c)
      sums n f c b r d h k l = omega arith

  -- after letters a number in a lane is at most the count of some run that ends there
  pub reached_from_first : (begun : g.init ≡ a.init) (letters : List ℕ) (p n : ℕ) → All (IsInGame g) letters → p < lanes g → lane (after g (initial g) (moves_of g letters)) p ≡ pos n
      → (edges : List Edge) × IsRunTo a letters p edges × (n ≤ count edges)
  reached_from_first begun letters p n inside in_p h =
      let r = reached letters (initial g) p n inside (length_initial g) in_p h in
      let b = begins_at g.init r.start r.first (sym (lane_initial g r.start r.within) ∙ r.lane_is) in
      (r.edges, subst (λ i. IsSomeAnd i (λ q. IsRunFrom a q letters r.edges × (end_of q r.edges ≡ p))) (sym b.0 ∙ begun) (r.run, r.ends), small n r.first (count r.edges) r.most b.1)
    where
      small : (n f c : ℕ) → n ≤ f + c → f ≡ 0 → n ≤ c
      small n f c h k = omega arith

-- after letters each lane has a number from -1 to the bound and one more
numbers : (g : GameData) (letters : List ℕ) (v : List ℤ) (p : ℕ) → p < lanes g → IsLaneNumber (bound g) (lane v p) → IsLaneNumber (bound g) (lane (after g v (moves_of g letters)) p)
numbers g [] v p in_p h = h
numbers g (x ∷ letters) v p in_p h =
    let move = move_of g.player g.inputs x in
    let act = action_of g move.own move.other in
    numbers g letters (successor g act v) p in_p (subst (IsLaneNumber (bound g)) (sym (lane_successor g act v p in_p)) (arrived_number (bound g) (action_at g act) v p))

-- the two valuations of a letter without a bit past the signals
letter_inside : (g : GameData) (x : ℕ) → x < 2 ^ (g.inputs + g.outputs) → IsInGame g x
letter_inside g x lt = by g.player refl
  where
    halves : (i o : ℕ) → x < 2 ^ (i + o) → (x / 2 ^ i < 2 ^ o) × (x % 2 ^ i < 2 ^ i)
    halves i o l = (div_below x (2 ^ i) (2 ^ o) (pow_pos i) (subst (λ n. x < n) (parts i o) l), mod_below x (2 ^ i) (pow_pos i))
      where
        parts : (i o : ℕ) → 2 ^ (i + o) ≡ 2 ^ o * 2 ^ i
        parts i o = ap (λ n. 2 ^ n) (turn i o) ∙ pow-add 2 o i
          where
            turn : (i o : ℕ) → i + o ≡ o + i
            turn i o = omega arith

    by : (p : Player) → g.player ≡ p → IsInGame g x
    by System e = let h = halves g.inputs g.outputs lt in record { own = rw e h.0; other = rw e h.1 }
    by Environment e = let h = halves g.inputs g.outputs lt in record { own = rw e h.1; other = rw e h.0 }

pub lanes_are_counts : LanesAreCounts
lanes_are_counts a g k letters p counts bounded in_p within = by (lane (after g (initial g) (moves_of g letters)) p) refl
  where
    inside : All (IsInGame g) letters
    inside i d lt = letter_inside g (get_or letters i d) (within i d lt)

    known : IsLaneNumber (bound g) (lane (after g (initial g) (moves_of g letters)) p)
    known = numbers g letters (initial g) p in_p (subst (IsLaneNumber (bound g)) (sym (lane_initial g p in_p)) (begins_number (bound g) g.init p))

    bound_is : bound g ≡ k
    bound_is = ap size bounded
      where
        size : ℤ → ℕ
        size (pos n) = n
        size (negsuc n) = 0

    least : (edges : List Edge) → IsRunTo a letters p edges → pos (min (k + 1) (count edges)) ≤ℤ lane (after g (initial g) (moves_of g letters)) p
    least edges run =
        subst (λ b. pos (min (b + 1) (count edges)) ≤ℤ lane (after g (initial g) (moves_of g letters)) p) bound_is
        (counted_from_first a g counts.game counts.automaton counts.rows counts.lanes_are counts.first letters edges p inside run).2

    lowered : (m n : ℕ) → pos m ≤ℤ pos n → m ≤ n
    lowered m n h = grind (arith, ints)

    never : (m n : ℕ) → pos m ≤ℤ negsuc n → ⊥
    never m n h = grind (arith, ints)

    meets : (b n c : ℕ) → b ≡ k → n ≤ b + 1 → n ≤ c → min (k + 1) c ≤ n → min (k + 1) c ≡ n
    meets b n c e h l m = omega arith

    by : (x : ℤ) → lane (after g (initial g) (moves_of g letters)) p ≡ x → IsGreatestCount a k letters p x
    by (negsuc n) e = (known.low n e, λ edges run. never (min (k + 1) (count edges)) n (subst (λ z. pos (min (k + 1) (count edges)) ≤ℤ z) e (least edges run)))
    by (pos n) e =
        let r = reached_from_first a g counts.rows counts.lanes_are counts.first letters p n inside in_p e in
        let most : (edges : List Edge) → IsRunTo a letters p edges → min (k + 1) (count edges) ≤ n =
        λ edges run. lowered (min (k + 1) (count edges)) n (subst (λ z. pos (min (k + 1) (count edges)) ≤ℤ z) e (least edges run)) in
        ((r.0, r.1, meets (bound g) n (count r.0) bound_is (known.high n e) r.2 (most r.0 r.1)), most)

-- the letters of a play are those of its moves
again : (m : MachineData) → IsMachine m → (moves : List Move) (s : ℕ) → s < length m.states → IsPlayFrom m s moves → map (move_of m.player m.inputs) (map (letter_of m.player m.inputs) moves) ≡ moves
again m is [] s in_s play = refl
again m is (move ∷ moves) s in_s play =
    let found = decided (IsLine (own_of m) (other_of m) (length m.states)) (lines_at m s) move.other (λ l. (move.own ≡ l.own) × IsPlayFrom m l.next moves) (is.ranged s [] in_s) play.1 in
    both _ _ _ _ (move_again m.player m.inputs m.outputs move.own move.other (subst (λ o. o < 2 ^ own_of m) (sym found.2.0) found.1.1) play.0) (again m is moves found.0.next found.1.2 found.2.1)
  where
    both : (x y : Move) (xs ys : List Move) → x ≡ y → xs ≡ ys → (x ∷ xs) ≡ (y ∷ ys)
    both x y xs ys h k = ap (λ z. z ∷ xs) h ∙ ap (λ zs. y ∷ zs) k

pub counting_is_exact : CountingIsExact
counting_is_exact a g m k counts bounded fits keeps moves play q lt = by (lane (after g (initial g) moves) q) refl
  where
    owns : own_of m ≡ own_width g
    owns = rw (fits.player, fits.inputs, fits.outputs) refl

    others : other_of m ≡ other_width g
    others = rw (fits.player, fits.inputs, fits.outputs) refl

    letters : List ℕ
    letters = map (letter_of m.player m.inputs) moves

    moves_are : moves_of g letters ≡ moves
    moves_are = sym (same_moves g m fits.machine owns others fits.player fits.inputs letters) ∙ again m fits.machine moves 0 fits.machine.begins play

    inside : All (IsInGame g) letters
    inside = played_inside g m fits.machine owns others fits.player fits.inputs letters 0 fits.machine.begins (subst (IsPlayFrom m 0) (sym moves_are) play)

    whole : (moves : List Move) (v : List ℤ) → length v ≡ lanes g → length (after g v moves) ≡ lanes g
    whole [] v h = h
    whole (x ∷ xs) v h = whole xs (successor g (action_of g x.own x.other) v) (length_successor g (action_of g x.own x.other) v)

    high : (n c : ℕ) → n ≤ c → c ≤ k → pos n ≤ℤ pos k
    high n c h l = lifted n k (omega (arith, h, l))
      where
        lifted : (a b : ℕ) → a ≤ b → pos a ≤ℤ pos b
        lifted a b h = grind (arith, ints)

    low : (n : ℕ) → negsuc n ≤ℤ pos k
    low n = grind (arith, ints)

    unended : (i : Option ℕ) (edges : List Edge) → IsSomeAnd i (λ q'. IsRunFrom a q' letters edges × (end_of q' edges ≡ q)) → IsSomeAnd i (λ q'. IsRunFrom a q' letters edges)
    unended None edges h = absurd h
    unended (Some q') edges h = h.0

    by : (x : ℤ) → lane (after g (initial g) moves) q ≡ x → lane (after g (initial g) moves) q ≤ℤ g.k
    by (negsuc n) e = subst (λ z. z ≤ℤ g.k) (sym e) (subst (λ z. negsuc n ≤ℤ z) (sym bounded) (low n))
    by (pos n) e =
        let r = reached_from_first a g counts.rows counts.lanes_are counts.first letters q n inside (subst (λ l. q < l) (whole moves (initial g) (length_initial g)) lt) (ap (λ (vs : List Move). lane (after g (initial g) vs) q) moves_are ∙ e) in
        let most : count r.0 ≤ k = keeps letters r.0 (subst (IsPlayFrom m 0) (sym (again m fits.machine moves 0 fits.machine.begins play)) play) (unended a.init r.0 r.1) in
        subst (λ z. z ≤ℤ g.k) (sym e) (subst (λ z. pos n ≤ℤ z) (sym bounded) (high n (count r.0) r.2 most))
