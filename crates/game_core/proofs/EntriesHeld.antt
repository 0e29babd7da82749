-- Each vector of a closed list is held, by a machine whose states are vectors of the list.
use Rattle.std.proofs.Common.{◌≡◌, ◌⊎◌, inl, inr, ℕ, zero, suc, ◌+◌, ◌-◌, ◌<◌, ◌≤◌, ◌^◌, Bool, true, false, cond, List, [], ◌∷◌, length, map, Some, is_some, refl, sym, ◌∙◌, ap, subst, arith}
use Rattle.std.specs.Prelude.{ℤ, pos, negsuc, ◌≤ℤ◌, slice_index_or, MatchOption, bit_and, nat_eq}
use Rattle.std.specs.List.{All, range_with_len}
use Rattle.std.proofs.lemmas.Bool.{cases_lt}
use Rattle.std.proofs.lemmas.Bool.Decides.{Decides-eqb}
use Rattle.std.proofs.lemmas.Int.{ints}
use Rattle.std.proofs.lemmas.Nat.{pow_pos, and_mask}
use Rattle.std.proofs.Math.Nat.{mod-eq_of_lt as mod-eq}
use Rattle.std.proofs.lemmas.List.{get_or_default}
use Rattle.std.proofs.lemmas.List.Folds.{Any-from_list_any}
use Rattle.std.proofs.lemmas.List.FromFn.{get_or-map-range_with_len, length-map-range_with_len}
use Rattle.antichain_list.specs.Antichain.{covered}
use Rattle.counter_vec.specs.Counters.{at_or_below}
use Rattle.counter_vec.specs.Orders.{below-refl, below-trans}
use Rattle.counter_vec.proofs.Galois.{galois}
use Rattle.counter_vec.proofs.Vectors.{arrived_low}
use Rattle.word_core.specs.declared.names.Kind.{Kind}
use Rattle.word_core.specs.declared.names.Kind.TheVariants.{First, Second}
use Rattle.word_core.specs.declared.cubes.Cube.{Cube}
use Rattle.word_core.specs.declared.machines.Line.{Line}
use Rattle.word_core.specs.Cube.{holds, IsCube}
use Rattle.word_core.specs.Machine.{MachineData, IsMachine, IsLine, IsDecided, HasOneOwn, choice}
use Rattle.word_core.specs.Play.{Move, IsPlayFrom}
use Rattle.word_core.proofs.TreeLabels.{label_of-all}
use Rattle.game_form.specs.Game.{GameData, IsGame, lanes, action_at, class_at, class_of, option_at, no_class, action_of, letter_of, own_width, other_width, of_first, of_second}
use Rattle.game_form.specs.Vector.{IsVector, arrived, bound, successor, predecessor}
use Rattle.game_form.specs.Held.{IsHeld, InBound, after}
use Rattle.game_form.specs.Letters.{letters_of, HasLetters}
use Rattle.cpre_step.specs.Refinement.{action_works, all_work, some_works, answers, answers_by}
use Rattle.game_core.proofs.FullColumns.{all_at}
use Rattle.game_core.proofs.Orders.{below_length, below_lane}

-- a function from what there is for each number below n
module _ {Y : Type 0} (n : ℕ) (d : Y) (R : ℕ → Y → Type 0) (h : (x : ℕ) → x < n → (y : Y) × R x y) where
  abbrev pick : (x : ℕ) → (x < n) ⊎ (n ≤ x) → Y
  pick x (inl lt) = (h x lt).0
  pick x (inr ge) = d

  picked : (x : ℕ) → x < n → (c : (x < n) ⊎ (n ≤ x)) → R x (pick x c)
  picked x lt (inl below) = (h x below).1
  picked x lt (inr ge) = absurd (omega arith)

  chosen : (f : ℕ → Y) × ((x : ℕ) → x < n → R x (f x))
  chosen = (λ x. pick x (cases_lt x n), λ x lt. picked x lt (cases_lt x n))

all_mapped : {X : Type 0} (P : X → Type 0) (f : ℕ → X) (n : ℕ) → ((i : ℕ) → i < n → P (f i)) → All P (map f (range_with_len 0 n))
all_mapped P f n h k d lt =
    let size : length (map f (range_with_len 0 n)) ≡ n = length-map-range_with_len f 0 n in
    let within : k < n = omega arith in
    subst P (sym (get_or-map-range_with_len f 0 n k k d within (omega arith))) (h k within)

-- the cube of one valuation
abbrev cube_of : ℕ → ℕ → Cube
cube_of w x = record { care = 2 ^ w - 1; want = x }

whole_mask : (w y : ℕ) → y < 2 ^ w → bit_and y (2 ^ w - 1) ≡ y
whole_mask w y lt = and_mask y w ∙ mod-eq lt

cube_fits : (w x : ℕ) → x < 2 ^ w → IsCube w (cube_of w x)
cube_fits w x lt = (let p = pow_pos w in omega arith, whole_mask w x lt)

-- the lines of a state, one for each valuation of the other: the own valuation and the next state
abbrev line_of : ℕ → (ℕ → ℕ × ℕ) → ℕ → Line
line_of w play x = record { when = cube_of w x; own = (play x).0; next = (play x).1 }

abbrev lines_of : ℕ → (ℕ → ℕ × ℕ) → List Line
lines_of w play = map (line_of w play) (range_with_len 0 (2 ^ w))

decides : (w : ℕ) (play : ℕ → ℕ × ℕ) (n a y : ℕ) → y < 2 ^ w → a ≤ y → y < a + n → choice (map (line_of w play) (range_with_len a n)) y ≡ Some (line_of w play y)
decides w play zero a y lt low high = absurd (omega arith)
decides w play (suc n) a y lt low high = go (holds (cube_of w a) y) refl (λ above. decides w play n (a + 1) y lt above (omega arith))
  where
    same : holds (cube_of w a) y ≡ nat_eq y a
    same = ap (λ z. nat_eq z a) (whole_mask w y lt)

    go : (b : Bool) → holds (cube_of w a) y ≡ b → (a + 1 ≤ y → choice (map (line_of w play) (range_with_len (a + 1) n)) y ≡ Some (line_of w play y))
        → cond b (Some (line_of w play a)) (choice (map (line_of w play) (range_with_len (a + 1) n)) y) ≡ Some (line_of w play y)
    go true e later = ap (λ z. Some (line_of w play z)) (sym ((Decides-eqb y a).0 (sym same ∙ e)))
    go false e later =
        let ne : y ≡ a → ⊥ = λ is. (let t : nat_eq y a ≡ true = (Decides-eqb y a).1 is in let f : nat_eq y a ≡ false = sym same ∙ e in cc) in
        later (omega arith)

at_most : (x y z : ℤ) → x ≤ℤ y → y ≤ℤ z → x ≤ℤ z
at_most x y z a b = grind (arith, ints)

-- a successor at or below a vector is one
successor_vector : (g : GameData) (a : ℕ) (v e : List ℤ) → IsVector g e → at_or_below (successor g a v) e ≡ true → IsVector g (successor g a v)
successor_vector g a v e is below =
    let f : ℕ → ℤ = arrived (bound g) (action_at g a) v in
    let size = length-map-range_with_len f 0 (lanes g) in
    let long = below_length (successor g a v) e below in
    record {
      same_length = size;
      low = λ q lt. subst (λ x. negsuc 0 ≤ℤ x) (sym (get_or-map-range_with_len f 0 (lanes g) q q (pos 0) (omega arith) (omega arith))) (arrived_low (bound g) (action_at g a) v q);
      high = λ q lt. at_most _ _ g.k (below_lane (successor g a v) e q below lt) (is.high q (omega arith));
    }

-- from f the player's valuation and the state p.1 answer a valuation of the other
pub record IsMove (g : GameData) (entries : List (List ℤ)) (f : List ℤ) (x : ℕ) (p : ℕ × ℕ) : Type 0 where
  pub own : p.0 < 2 ^ own_width g
  pub next : p.1 < length entries
  pub below : at_or_below (successor g (action_of g p.0 x) f) (slice_index_or entries p.1 []) ≡ true

pub record IsMoves (g : GameData) (entries : List (List ℤ)) (f : List ℤ) (play : ℕ → ℕ × ℕ) : Type 0 where
  pub each : (x : ℕ) → x < 2 ^ other_width g → IsMove g entries f x (play x)
  pub one : g.kind ≡ First → (x y : ℕ) → (play x).0 ≡ (play y).0

module _ (g : GameData) (known : IsGame g) (list : List (List ℤ)) (start : List ℤ) (vectors : (i : ℕ) → i < length (start ∷ list) → IsVector g (slice_index_or (start ∷ list) i []))
    (plays : ℕ → ℕ → ℕ × ℕ) (moves : (i : ℕ) → i < length (start ∷ list) → IsMoves g (start ∷ list) (slice_index_or (start ∷ list) i []) (plays i)) where
  abbrev states : List (List Line)
  states = map (λ i. lines_of (other_width g) (plays i)) (range_with_len 0 (length (start ∷ list)))

  count : length states ≡ length (start ∷ list)
  count = length-map-range_with_len (λ i. lines_of (other_width g) (plays i)) 0 (length (start ∷ list))

  abbrev m : MachineData
  m = record { player = g.player; kind = g.kind; inputs = g.inputs; outputs = g.outputs; states = states }

  lines_are : (s : ℕ) → s < length (start ∷ list) → slice_index_or states s [] ≡ lines_of (other_width g) (plays s)
  lines_are s lt = get_or-map-range_with_len (λ i. lines_of (other_width g) (plays i)) 0 (length (start ∷ list)) s s [] lt (omega arith)

  one_own : g.kind ≡ First → (i : ℕ) → i < length (start ∷ list) → HasOneOwn (lines_of (other_width g) (plays i))
  one_own kind i lt d a b in_a in_b =
      let w = other_width g in
      let size = length-map-range_with_len (line_of w (plays i)) 0 (2 ^ w) in
      let at : (k : ℕ) → k < 2 ^ w → (slice_index_or (lines_of w (plays i)) k d).own ≡ (plays i k).0 =
      λ k below. ap (λ (l : Line). l.own) (get_or-map-range_with_len (line_of w (plays i)) 0 (2 ^ w) k k d below (omega arith)) in
      at a (omega arith) ∙ (moves i lt).one kind a b ∙ sym (at b (omega arith))

  is_machine : IsMachine m
  is_machine = record {
    begins = omega (arith, count);
    narrow = (let h = known.widths in omega arith);
    ranged = subst (λ c. All (All (IsLine (own_width g) (other_width g) c)) states) (sym count)
        (all_mapped (All (IsLine (own_width g) (other_width g) (length (start ∷ list)))) (λ i. lines_of (other_width g) (plays i)) (length (start ∷ list))
        (λ i lt. all_mapped (IsLine (own_width g) (other_width g) (length (start ∷ list))) (line_of (other_width g) (plays i)) (2 ^ other_width g)
        (λ x in_x. (let r = (moves i lt).each x in_x in (cube_fits (other_width g) x in_x, r.own, r.next)))));
    decided = all_mapped (IsDecided (other_width g)) (λ i. lines_of (other_width g) (plays i)) (length (start ∷ list))
        (λ i lt x in_x. ap is_some (decides (other_width g) (plays i) (2 ^ other_width g) 0 x in_x (omega arith) (omega arith)));
    first = λ kind. all_mapped HasOneOwn (λ i. lines_of (other_width g) (plays i)) (length (start ∷ list)) (one_own kind);
  }

  action_within : (own other : ℕ) → action_of g own other < length g.actions
  action_within own other = label_of-all (λ l. l < length g.actions) g.letters known.letters.tree known.letters.labels (letter_of g own other)

  -- what is at or below the entry of a state leads to what is at or below that of the next one
  leads_below : (s other : ℕ) (v : List ℤ) → s < length (start ∷ list) → other < 2 ^ other_width g → IsVector g v → at_or_below v (slice_index_or (start ∷ list) s []) ≡ true
      → at_or_below (successor g (action_of g (plays s other).0 other) v) (slice_index_or (start ∷ list) (plays s other).1 []) ≡ true
  leads_below s other v in_s in_other vector below =
      let e : List ℤ = slice_index_or (start ∷ list) s [] in
      let r = (moves s in_s).each other in_other in
      let target : List ℤ = slice_index_or (start ∷ list) (plays s other).1 [] in
      let a = action_of g (plays s other).0 other in
      galois g known a (action_within (plays s other).0 other) v target vector (vectors (plays s other).1 r.next)
      ∙ below-trans v e (predecessor g a target) below
      (sym (galois g known a (action_within (plays s other).0 other) e target (vectors s in_s) (vectors (plays s other).1 r.next)) ∙ r.below)

  keep : (played : List Move) (s : ℕ) (v : List ℤ) → s < length (start ∷ list) → IsVector g v → at_or_below v (slice_index_or (start ∷ list) s []) ≡ true → IsPlayFrom m s played → InBound g (after g v played)
  keep [] s v in_s vector below play = vector.high
  keep (move ∷ played) s v in_s vector below play =
      let in_other : move.other < 2 ^ other_width g = play.0 in
      let w = other_width g in
      let decided : choice (slice_index_or states s []) move.other ≡ Some (line_of w (plays s) move.other) =
      ap (λ (ls : List Line). choice ls move.other) (lines_are s in_s) ∙ decides w (plays s) (2 ^ w) 0 move.other in_other (omega arith) (omega arith) in
      let step : (move.own ≡ (plays s move.other).0) × IsPlayFrom m (plays s move.other).1 played =
      subst (λ o. MatchOption o ⊥ (λ l. (move.own ≡ l.own) × IsPlayFrom m l.next played)) decided play.1 in
      let r = (moves s in_s).each move.other in_other in
      let next_below = leads_below s move.other v in_s in_other vector below in
      subst (λ o. InBound g (after g (successor g (action_of g o move.other) v) played)) (sym step.0)
      (keep played (plays s move.other).1 (successor g (action_of g (plays s move.other).0 move.other) v) r.next
      (successor_vector g (action_of g (plays s move.other).0 move.other) v (slice_index_or (start ∷ list) (plays s move.other).1 []) (vectors (plays s move.other).1 r.next) next_below)
      next_below step.1)

  start_held : (v : List ℤ) → IsVector g v → at_or_below v start ≡ true → IsHeld g v
  start_held v vector below = record {
    vector = vector;
    machine = m;
    fits = record { machine = is_machine; player = refl; kind = refl; inputs = refl; outputs = refl };
    keeps = λ played play. keep played 0 v (omega arith) vector below play;
  }

-- an action that works leads to some vector of the list
place_of : (g : GameData) (list : List (List ℤ)) (f : List ℤ) (a : ℕ) → action_works g list f a ≡ true
    → (j : ℕ) × (j < length list) × (at_or_below (successor g a f) (slice_index_or list j []) ≡ true)
place_of g list f a works =
    let r = Any-from_list_any (λ e. at_or_below (successor g a f) e) list works in
    (r.0, r.2, ap (at_or_below (successor g a f)) (get_or_default list r.0 [] r.1 r.2 ∙ r.3) ∙ r.4)

module _ (g : GameData) (known : IsGame g) (list : List (List ℤ)) (start f : List ℤ) where
  move_to : (x own : ℕ) → own < 2 ^ own_width g → action_works g list f (action_of g own x) ≡ true → (j : ℕ) × IsMove g (start ∷ list) f x (own, j)
  move_to x own in_own works =
      let r = place_of g list f (action_of g own x) works in
      (suc r.0, record { own = in_own; next = omega (arith, r.1); below = r.2 })

  second_moves : g.kind ≡ Second → letters_of Second g → answers_by Second g list f ≡ true → (play : ℕ → ℕ × ℕ) × IsMoves g (start ∷ list) f play
  second_moves kind letters answered =
      let c = chosen (2 ^ other_width g) (0, 0) (IsMove g (start ∷ list) f) move in
      (c.0, record { each = c.1; one = λ first x y. absurd (apart (sym first ∙ kind)) })
    where
      apart : First ≡ Second → ⊥
      apart e = cc

      move : (x : ℕ) → x < 2 ^ other_width g → (p : ℕ × ℕ) × IsMove g (start ∷ list) f x p
      move x in_x =
          let place : ℕ = class_of g x in
          let within : place < length g.classes = label_of-all (λ l. l < length g.classes) g.firsts known.firsts.tree known.firsts.labels x in
          let options : List (ℕ × ℕ) = (class_at g place).options in
          let some : some_works g list f (class_at g place) ≡ true = all_at (λ c. some_works g list f c) g.classes place no_class within answered in
          let r = Any-from_list_any (λ o. action_works g list f o.0) options some in
          let own : ℕ = (option_at (class_at g place) r.0).1 in
          let in_own : own < 2 ^ own_width g = subst (λ k. own < 2 ^ of_second k (own_width g) (other_width g)) kind ((known.classes place within).reply r.0 r.2) in
          let works : action_works g list f (action_of g own x) ≡ true =
          ap (action_works g list f) (sym (letters x r.0 in_x r.2)) ∙ ap (λ (o : ℕ × ℕ). action_works g list f o.0) (get_or_default options r.0 (0, 0) r.1 r.2 ∙ r.3) ∙ r.4 in
          let t = move_to x own in_own works in
          ((own, t.0), t.1)

  first_moves : g.kind ≡ First → letters_of First g → answers_by First g list f ≡ true → (play : ℕ → ℕ × ℕ) × IsMoves g (start ∷ list) f play
  first_moves kind letters answered =
      let r = Any-from_list_any (λ c. all_work g list f c) g.classes answered in
      let own : ℕ = (class_at g r.0).least in
      let in_own : own < 2 ^ own_width g = subst (λ k. own < 2 ^ of_first k (own_width g) (other_width g)) kind (known.classes r.0 r.2).least in
      let all : all_work g list f (class_at g r.0) ≡ true = ap (all_work g list f) (get_or_default g.classes r.0 no_class r.1 r.2 ∙ r.3) ∙ r.4 in
      let c = chosen (2 ^ other_width g) 0 (λ x j. IsMove g (start ∷ list) f x (own, j)) (move r.0 r.2 in_own all) in
      (λ x. (own, c.0 x), record { each = c.1; one = λ first x y. refl })
    where
      move : (place : ℕ) → place < length g.classes → (class_at g place).least < 2 ^ own_width g → all_work g list f (class_at g place) ≡ true
          → (x : ℕ) → x < 2 ^ other_width g → (j : ℕ) × IsMove g (start ∷ list) f x ((class_at g place).least, j)
      move place within in_own all x in_x =
          let r = letters place x within in_x in
          let works : action_works g list f (action_of g (class_at g place).least x) ≡ true =
          ap (action_works g list f) (sym r.2) ∙ all_at (λ o. action_works g list f o.0) (class_at g place).options r.0 (0, 0) r.1 all in
          move_to x (class_at g place).least in_own works

  moves_by : (kind : Kind) → g.kind ≡ kind → letters_of kind g → answers_by kind g list f ≡ true → (play : ℕ → ℕ × ℕ) × IsMoves g (start ∷ list) f play
  moves_by First kind letters answered = first_moves kind letters answered
  moves_by Second kind letters answered = second_moves kind letters answered

-- what is at or below a member of a closed list
member_held : (g : GameData) → IsGame g → HasLetters g → (list : List (List ℤ)) → All (IsVector g) list → All (λ f. answers g list f ≡ true) list
    → (k : ℕ) (d v : List ℤ) → k < length list → IsVector g v → at_or_below v (slice_index_or list k d) ≡ true → IsHeld g v
member_held g known letters list vectors closed k d v lt = start_held g known list start each_vector plays.0 plays.1 v
  where
    start : List ℤ
    start = slice_index_or list k d

    each_vector : (i : ℕ) → i < length (start ∷ list) → IsVector g (slice_index_or (start ∷ list) i [])
    each_vector zero h = vectors k d lt
    each_vector (suc i) h = vectors i [] (omega arith)

    each_answers : (i : ℕ) → i < length (start ∷ list) → answers g list (slice_index_or (start ∷ list) i []) ≡ true
    each_answers zero h = closed k d lt
    each_answers (suc i) h = closed i [] (omega arith)

    plays : (play : ℕ → ℕ → ℕ × ℕ) × ((i : ℕ) → i < length (start ∷ list) → IsMoves g (start ∷ list) (slice_index_or (start ∷ list) i []) (play i))
    plays =
        chosen (length (start ∷ list)) (λ x. (0, 0)) (λ i play. IsMoves g (start ∷ list) (slice_index_or (start ∷ list) i []) play)
        (λ i h. moves_by g known list start (slice_index_or (start ∷ list) i []) g.kind refl letters (each_answers i h))

pub closed_held : (g : GameData) → IsGame g → HasLetters g → (list : List (List ℤ)) → All (IsVector g) list → All (λ f. answers g list f ≡ true) list → All (IsHeld g) list
closed_held g known letters list vectors closed k d lt = member_held g known letters list vectors closed k d (slice_index_or list k d) lt (vectors k d lt) (below-refl (slice_index_or list k d))

pub below_held : (g : GameData) → IsGame g → HasLetters g → (list : List (List ℤ)) → All (IsVector g) list → All (λ f. answers g list f ≡ true) list
    → (v : List ℤ) → IsVector g v → covered at_or_below v list ≡ true → IsHeld g v
below_held g known letters list vectors closed v vector hit =
    let r = Any-from_list_any (λ e. at_or_below v e) list hit in
    member_held g known letters list vectors closed r.0 r.1 v r.2 vector (ap (at_or_below v) r.3 ∙ r.4)
