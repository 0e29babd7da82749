-- What covers a game, with each number more, covers the game with a bound that is greater by as much.
use Rattle.std.proofs.Common.{◌≡◌, ℕ, zero, suc, ◌+◌, ◌-◌, ◌<◌, Bool, true, false, ◌&&◌, List, [], ◌∷◌, length, map, refl, sym, ◌∙◌, ap, subst, arith}
use Rattle.std.specs.Prelude.{ℤ, pos, negsuc, ◌≤ℤ◌, ◌+ℤ◌, int_le, nat_le, min, slice_index_or, if◌then◌else◌}
use Rattle.std.specs.Int.{int_max}
use Rattle.std.specs.List.{All, AllPairs}
use Rattle.std.proofs.lemmas.Int.{ints, clamps}
use Rattle.std.proofs.lemmas.List.{get_or_default}
use Rattle.std.proofs.lemmas.List.Elements.{All-cons, All-nil, All-from_recursion, recursion_from_All}
use Rattle.std.proofs.lemmas.List.Folds.{Any-from_list_any, list_any_at}
use Rattle.std.proofs.lemmas.List.FromFn.{get_or-map-range_with_len, length-map-range_with_len}
use Rattle.antichain_list.specs.Antichain.{covered}
use Rattle.counter_vec.specs.Counters.{at_or_below, lifted}
use Rattle.counter_vec.specs.Orders.{below-refl, below-trans}
use Rattle.counter_vec.proofs.Along.{pos-size_of}
use Rattle.word_core.specs.declared.names.Kind.{Kind}
use Rattle.word_core.specs.declared.names.Kind.TheVariants.{First, Second}
use Rattle.word_core.specs.Machine.{MachineData}
use Rattle.word_core.specs.Play.{Move}
use Rattle.game_form.specs.declared.actions.Step.{Step}
use Rattle.game_form.specs.Covering.{covering_of}
use Rattle.game_form.specs.Game.{GameData, IsGame, lanes, action_at, action_of}
use Rattle.game_form.specs.Held.{IsMachineOf, KeepsFrom, after}
use Rattle.game_form.specs.Vector.{IsVector, lane, number, brought, arrived, bound, successor, top}
use Rattle.cpre_step.specs.Refinement.{action_works, all_work, some_works, answers, answers_by}
use Rattle.game_core.specs.Front.{IsApart, under}
use Rattle.game_core.specs.Solved.{Covers, IsClosed}
use Rattle.game_core.specs.Start.{IsStart, raised_by}
use Rattle.game_core.proofs.Greatest.{top_covers}
use Rattle.game_core.proofs.Kept.{vector-top}
use Rattle.game_core.proofs.Orders.{below_from, below_length, below_lane}
use Rattle.game_core.proofs.Works.{any_weaker, all_weaker}

-- a number less by s, and -1 where there is none from 0 on
abbrev lowered : ℕ → ℤ → ℤ
lowered s (negsuc m) = negsuc 0
lowered s (pos n) = if nat_le s n then pos (n - s) else negsuc 0

abbrev lowered_all : ℕ → List ℤ → List ℤ
lowered_all s v = map (lowered s) v

lowered_low : (s : ℕ) (x : ℤ) → negsuc 0 ≤ℤ lowered s x
lowered_low s (negsuc m) = omega (arith, ints)
lowered_low s (pos n) = grind (arith, ints)

lowered_mono : (s : ℕ) (x y : ℤ) → x ≤ℤ y → lowered s x ≤ℤ lowered s y
lowered_mono s (negsuc m) y h = lowered_low s y
lowered_mono s (pos n) (negsuc m) h = absurd (omega (arith, ints))
lowered_mono s (pos n) (pos m) h = grind (arith, ints)

lowered_back : (s : ℕ) (x y : ℤ) → lowered s x ≤ℤ y → x ≤ℤ (y +ℤ pos s)
lowered_back s (negsuc m) y h = omega (arith, ints)
lowered_back s (pos n) y h = grind (arith, ints)

lowered_bound : (s k : ℕ) (x : ℤ) → x ≤ℤ pos (k + s) → lowered s x ≤ℤ pos k
lowered_bound s k (negsuc m) h = omega (arith, ints)
lowered_bound s k (pos n) h = grind (arith, ints)

brought_lowered : (k s : ℕ) (x : ℤ) (r : ℕ) → brought k (lowered s x) r ≤ℤ lowered s (brought (k + s) x r)
brought_lowered k s (negsuc m) r = omega (arith, ints)
brought_lowered k s (pos n) zero = grind (arith, ints)
brought_lowered k s (pos n) (suc r) = go (nat_le s n) refl
  where
    go : (b : Bool) → nat_le s n ≡ b → brought k (if b then pos (n - s) else negsuc 0) (suc r) ≤ℤ lowered s (pos (min (k + s + 1) (n + r)))
    go true e = grind (arith, ints)
    go false e = lowered_low s (pos (min (k + s + 1) (n + r)))

brought_more : (k : ℕ) (x y : ℤ) (r : ℕ) → x ≤ℤ y → brought k x r ≤ℤ brought k y r
brought_more k (negsuc m) (negsuc n) r h = omega (arith, ints)
brought_more k (negsuc m) (pos n) zero h = omega (arith, ints)
brought_more k (negsuc m) (pos n) (suc r) h = omega (arith, ints)
brought_more k (pos m) (negsuc n) r h = absurd (omega (arith, ints))
brought_more k (pos m) (pos n) zero h = omega (arith, ints)
brought_more k (pos m) (pos n) (suc r) h = grind (arith, ints)

le_trans : (x y z : ℤ) → x ≤ℤ y → y ≤ℤ z → x ≤ℤ z
le_trans x y z h k = grind (arith, ints)

max_most : (x y z : ℤ) → x ≤ℤ z → y ≤ℤ z → int_max x y ≤ℤ z
max_most x y z h k = omega (arith, ints, clamps)

max_left : (x y : ℤ) → x ≤ℤ int_max x y
max_left x y = omega (arith, ints, clamps)

max_right : (x y : ℤ) → y ≤ℤ int_max x y
max_right x y = omega (arith, ints, clamps)

-- what lowered numbers bring is at most what the numbers bring, lowered
arrived_lowered : (k s : ℕ) (rows : List (List Step)) (v u : List ℤ) (p : ℕ) → at_or_below v (lowered_all s u) ≡ true
    → arrived k rows v p ≤ℤ lowered s (arrived (k + s) rows u p)
arrived_lowered k s [] v u p h = omega (arith, ints)
arrived_lowered k s (row ∷ rows) [] [] p h = omega (arith, ints)
arrived_lowered k s (row ∷ rows) [] (y ∷ u) p h = cc
arrived_lowered k s (row ∷ rows) (x ∷ v) [] p h = cc
arrived_lowered k s (row ∷ rows) (x ∷ v) (y ∷ u) p h =
    let r : ℕ = number row p in
    let first : ℤ = brought (k + s) y r in
    let rest : ℤ = arrived (k + s) rows u p in
    let low : x ≤ℤ lowered s y = below_lane (x ∷ v) (lowered_all s (y ∷ u)) 0 h (omega arith) in
    let here : brought k x r ≤ℤ lowered s first = le_trans _ _ _ (brought_more k x (lowered s y) r low) (brought_lowered k s y r) in
    let later : arrived k rows v p ≤ℤ lowered s rest = arrived_lowered k s rows v u p (behind x (lowered s y) v (lowered_all s u) h) in
    max_most _ _ _ (le_trans _ _ _ here (lowered_mono s first (int_max first rest) (max_left first rest))) (le_trans _ _ _ later (lowered_mono s rest (int_max first rest) (max_right first rest)))
  where
    behind : (a b : ℤ) (xs ys : List ℤ) → at_or_below (a ∷ xs) (b ∷ ys) ≡ true → at_or_below xs ys ≡ true
    behind a b xs ys g = right (int_le a b) (at_or_below xs ys) g
      where
        right : (c d : Bool) → (c && d) ≡ true → d ≡ true
        right true d e = e
        right false d e = cc

length_lowered : (s : ℕ) (v : List ℤ) → length (lowered_all s v) ≡ length v
length_lowered s [] = refl
length_lowered s (x ∷ v) = ap suc (length_lowered s v)

lane_lowered : (s : ℕ) (v : List ℤ) (p : ℕ) → p < length v → lane (lowered_all s v) p ≡ lowered s (lane v p)
lane_lowered s [] p lt = absurd (omega arith)
lane_lowered s (x ∷ v) zero lt = refl
lane_lowered s (x ∷ v) (suc p) lt = lane_lowered s v p (omega arith)

-- so the successors keep their distance
successor_lowered : (g : GameData) (s a : ℕ) (v u : List ℤ) → at_or_below v (lowered_all s u) ≡ true → at_or_below (successor g a v) (lowered_all s (successor (raised_by s g) a u)) ≡ true
successor_lowered g s a v u h =
    let f : ℕ → ℤ = arrived (bound g) (action_at g a) v in
    let f' : ℕ → ℤ = arrived (bound g + s) (action_at g a) u in
    let one : length (successor g a v) ≡ lanes g = length-map-range_with_len f 0 (lanes g) in
    let two : length (successor (raised_by s g) a u) ≡ lanes g = length-map-range_with_len f' 0 (lanes g) in
    let three : length (lowered_all s (successor (raised_by s g) a u)) ≡ length (successor (raised_by s g) a u) = length_lowered s (successor (raised_by s g) a u) in
    below_from (successor g a v) (lowered_all s (successor (raised_by s g) a u)) (one ∙ sym two ∙ sym three)
    (λ p lt.
    let within : p < lanes g = omega arith in
    let e : lane (successor g a v) p ≡ f p = get_or-map-range_with_len f 0 (lanes g) p p (pos 0) within (omega arith) in
    let e' : lane (successor (raised_by s g) a u) p ≡ f' p = get_or-map-range_with_len f' 0 (lanes g) p p (pos 0) within (omega arith) in
    let e'' : lane (lowered_all s (successor (raised_by s g) a u)) p ≡ lowered s (f' p) = lane_lowered s (successor (raised_by s g) a u) p (omega arith) ∙ ap (lowered s) e' in
    rw (e, e'') (arrived_lowered (bound g) s (action_at g a) v u p h))

after_lowered : (g : GameData) (s : ℕ) (moves : List Move) (v u : List ℤ) → at_or_below v (lowered_all s u) ≡ true → at_or_below (after g v moves) (lowered_all s (after (raised_by s g) u moves)) ≡ true
after_lowered g s [] v u h = h
after_lowered g s (move ∷ moves) v u h =
    let a : ℕ = action_of g move.own move.other in
    after_lowered g s moves (successor g a v) (successor (raised_by s g) a u) (successor_lowered g s a v u h)

length_mapped : {X Y : Type 0} (f : X → Y) (xs : List X) → length (map f xs) ≡ length xs
length_mapped f [] = refl
length_mapped f (x ∷ xs) = ap suc (length_mapped f xs)

mapped_at : {X Y : Type 0} (f : X → Y) (xs : List X) (i : ℕ) (d : X) → i < length xs → slice_index_or (map f xs) i (f d) ≡ f (slice_index_or xs i d)
mapped_at f [] i d lt = absurd (omega arith)
mapped_at f (x ∷ xs) zero d lt = refl
mapped_at f (x ∷ xs) (suc i) d lt = mapped_at f xs i d (omega arith)

-- what lowered numbers are at or below, the numbers are at or below with each number more
back_lifted : (s : ℕ) (u e : List ℤ) → at_or_below (lowered_all s u) e ≡ true → at_or_below u (lifted (pos s) e) ≡ true
back_lifted s u e h =
    let one : length (lowered_all s u) ≡ length u = length_lowered s u in
    let two : length (lowered_all s u) ≡ length e = below_length (lowered_all s u) e h in
    let three : length (lifted (pos s) e) ≡ length e = length_lifted (pos s) e in
    below_from u (lifted (pos s) e) (sym one ∙ two ∙ sym three)
    (λ p lt.
    let low : lane (lowered_all s u) p ≤ℤ lane e p = below_lane (lowered_all s u) e p h (omega arith) in
    let is : lane (lowered_all s u) p ≡ lowered s (lane u p) = lane_lowered s u p lt in
    let more : lane (lifted (pos s) e) p ≡ lane e p +ℤ pos s = lane_lifted (pos s) e p (omega arith) in
    rw more (lowered_back s (lane u p) (lane e p) (subst (λ x. x ≤ℤ lane e p) is low)))
  where
    length_lifted : (by : ℤ) (v : List ℤ) → length (lifted by v) ≡ length v
    length_lifted by [] = refl
    length_lifted by (x ∷ v) = ap suc (length_lifted by v)

    lane_lifted : (by : ℤ) (v : List ℤ) (p : ℕ) → p < length v → lane (lifted by v) p ≡ lane v p +ℤ by
    lane_lifted by [] p lt = absurd (omega arith)
    lane_lifted by (x ∷ v) zero lt = refl
    lane_lifted by (x ∷ v) (suc p) lt = lane_lifted by v p (omega arith)

under_lifted : (s : ℕ) (u : List ℤ) (vs : List (List ℤ)) → under vs (lowered_all s u) ≡ true → under (map (lifted (pos s)) vs) u ≡ true
under_lifted s u vs h =
    let w = Any-from_list_any (λ e. at_or_below (lowered_all s u) e) vs h in
    list_any_at (λ e. at_or_below u e) (map (lifted (pos s)) vs) w.0 (lifted (pos s) w.1) (let n = length_mapped (lifted (pos s)) vs in let k = w.2 in omega arith)
    (subst (λ (e : List ℤ). at_or_below u e ≡ true) (sym (mapped_at (lifted (pos s)) vs w.0 w.1 w.2))
    (back_lifted s u (slice_index_or vs w.0 w.1) (subst (λ (e : List ℤ). at_or_below (lowered_all s u) e ≡ true) (sym w.3) w.4)))

below_lowered : (s : ℕ) (u v : List ℤ) → at_or_below u v ≡ true → at_or_below (lowered_all s u) (lowered_all s v) ≡ true
below_lowered s u v h =
    let one : length (lowered_all s u) ≡ length u = length_lowered s u in
    let two : length (lowered_all s v) ≡ length v = length_lowered s v in
    let three : length u ≡ length v = below_length u v h in
    below_from (lowered_all s u) (lowered_all s v) (one ∙ three ∙ sym two)
    (λ p lt.
    let a : lane (lowered_all s u) p ≡ lowered s (lane u p) = lane_lowered s u p (omega arith) in
    let b : lane (lowered_all s v) p ≡ lowered s (lane v p) = lane_lowered s v p (omega arith) in
    rw (a, b) (lowered_mono s (lane u p) (lane v p) (below_lane u v p h (omega arith))))

vector_lowered : (g : GameData) → IsGame g → (s : ℕ) (u : List ℤ) → IsVector (raised_by s g) u → IsVector g (lowered_all s u)
vector_lowered g known s u is =
    let size : length (lowered_all s u) ≡ length u = length_lowered s u in
    record {
      same_length = size ∙ is.same_length;
      low = λ q lt. (let e : lane (lowered_all s u) q ≡ lowered s (lane u q) = lane_lowered s u q (omega arith) in rw e (lowered_low s (lane u q)));
      high = λ q lt.
          let e : lane (lowered_all s u) q ≡ lowered s (lane u q) = lane_lowered s u q (omega arith) in
          let most : lowered s (lane u q) ≤ℤ pos (bound g) = lowered_bound s (bound g) (lane u q) (is.high q (omega arith)) in
          rw e (subst (λ k. lowered s (lane u q) ≤ℤ k) (pos-size_of g.k known.low) most);
    }

-- a list that is closed with the greater bound is closed with the smaller one, each number less
works_lowered : (g : GameData) (s a : ℕ) (list : List (List ℤ)) (f : List ℤ) → action_works (raised_by s g) list f a ≡ true → action_works g (map (lowered_all s) list) (lowered_all s f) a ≡ true
works_lowered g s a list f h =
    let w = Any-from_list_any (λ e. at_or_below (successor (raised_by s g) a f) e) list h in
    let at : at_or_below (successor (raised_by s g) a f) (slice_index_or list w.0 w.1) ≡ true =
    subst (λ (e : List ℤ). at_or_below (successor (raised_by s g) a f) e ≡ true) (sym w.3) w.4 in
    list_any_at (λ e. at_or_below (successor g a (lowered_all s f)) e) (map (lowered_all s) list) w.0 (lowered_all s w.1)
    (let n = length_mapped (lowered_all s) list in let k = w.2 in omega arith)
    (subst (λ (e : List ℤ). at_or_below (successor g a (lowered_all s f)) e ≡ true) (sym (mapped_at (lowered_all s) list w.0 w.1 w.2))
    (below-trans (successor g a (lowered_all s f)) (lowered_all s (successor (raised_by s g) a f)) (lowered_all s (slice_index_or list w.0 w.1))
    (successor_lowered g s a (lowered_all s f) f (below-refl (lowered_all s f))) (below_lowered s (successor (raised_by s g) a f) (slice_index_or list w.0 w.1) at)))

answered_lowered : (kind : Kind) (g : GameData) (s : ℕ) (list : List (List ℤ)) (f : List ℤ) → answers_by kind (raised_by s g) list f ≡ true → answers_by kind g (map (lowered_all s) list) (lowered_all s f) ≡ true
answered_lowered First g s list f =
    any_weaker (λ c. all_work (raised_by s g) list f c) (λ c. all_work g (map (lowered_all s) list) (lowered_all s f) c) g.classes
    (λ k d lt. all_weaker (λ o. action_works (raised_by s g) list f o.0) (λ o. action_works g (map (lowered_all s) list) (lowered_all s f) o.0) (slice_index_or g.classes k d).options
    (λ i e within. works_lowered g s (slice_index_or (slice_index_or g.classes k d).options i e).0 list f))
answered_lowered Second g s list f =
    all_weaker (λ c. some_works (raised_by s g) list f c) (λ c. some_works g (map (lowered_all s) list) (lowered_all s f) c) g.classes
    (λ k d lt. any_weaker (λ o. action_works (raised_by s g) list f o.0) (λ o. action_works g (map (lowered_all s) list) (lowered_all s f) o.0) (slice_index_or g.classes k d).options
    (λ i e within. works_lowered g s (slice_index_or (slice_index_or g.classes k d).options i e).0 list f))

all_mapped : {X Y : Type 0} (P : X → Type 0) (Q : Y → Type 0) (f : X → Y) → ((x : X) → P x → Q (f x)) → (xs : List X) → All P xs → All Q (map f xs)
all_mapped P Q f step [] h k d lt = absurd (omega arith)
all_mapped P Q f step (x ∷ xs) h zero d lt = step x (h zero x (omega arith))
all_mapped P Q f step (x ∷ xs) h (suc k) d lt = all_mapped P Q f step xs (λ i e less. h (suc i) e (omega arith)) k d (omega arith)

from_mapped : {X Y : Type 0} (Q : Y → Type 0) (f : X → Y) (xs : List X) → All Q (map f xs) → All (λ x. Q (f x)) xs
from_mapped Q f xs h k d lt = subst Q (mapped_at f xs k d lt) (h k (f d) (let n = length_mapped f xs in omega arith))

closed_lowered : (g : GameData) → IsGame g → (s : ℕ) (list : List (List ℤ)) → IsClosed (raised_by s g) list → IsClosed g (map (lowered_all s) list)
closed_lowered g known s list closed = record {
  vectors = recursion_from_All (IsVector g) (map (lowered_all s) list)
      (all_mapped (IsVector (raised_by s g)) (IsVector g) (lowered_all s) (vector_lowered g known s) list (All-from_recursion (IsVector (raised_by s g)) list closed.vectors));
  closed = all_mapped (λ f. answers (raised_by s g) list f ≡ true) (λ f. answers g (map (lowered_all s) list) f ≡ true) (lowered_all s) (λ f. answered_lowered g.kind g s list f) list closed.closed;
}

-- a machine that keeps the greater bound from a vector keeps the smaller one from the vector with each number less
keeps_lowered : (g : GameData) → IsGame g → (m : MachineData) (state s : ℕ) (u : List ℤ) → KeepsFrom (raised_by s g) m state u → KeepsFrom g m state (lowered_all s u)
keeps_lowered g known m state s u keeps moves play q lt =
    let v : List ℤ = after g (lowered_all s u) moves in
    let w : List ℤ = after (raised_by s g) u moves in
    let below : at_or_below v (lowered_all s w) ≡ true = after_lowered g s moves (lowered_all s u) u (below-refl (lowered_all s u)) in
    let one : length v ≡ length (lowered_all s w) = below_length v (lowered_all s w) below in
    let two : length (lowered_all s w) ≡ length w = length_lowered s w in
    let e : lane (lowered_all s w) q ≡ lowered s (lane w q) = lane_lowered s w q (omega arith) in
    let most : lowered s (lane w q) ≤ℤ pos (bound g) = lowered_bound s (bound g) (lane w q) (keeps moves play q (omega arith)) in
    le_trans _ _ _ (below_lane v (lowered_all s w) q below lt) (rw e (subst (λ k. lowered s (lane w q) ≤ℤ k) (pos-size_of g.k known.low) most))

machine_lowered : (g : GameData) (s : ℕ) (m : MachineData) → IsMachineOf (raised_by s g) m → IsMachineOf g m
machine_lowered g s m h = record { machine = h.machine; player = h.player; kind = h.kind; inputs = h.inputs; outputs = h.outputs }

letters_lowered : (kind : Kind) (g : GameData) (s : ℕ) → covering_of kind (raised_by s g) → covering_of kind g
letters_lowered First g s h = h
letters_lowered Second g s h = h

covers_lifted : (g : GameData) → IsGame g → (s : ℕ) (vs : List (List ℤ)) → Covers g vs → Covers (raised_by s g) (map (lifted (pos s)) vs)
covers_lifted g known s vs covers = record {
  closed = λ other closed k d lt.
      under_lifted s (slice_index_or other k d) vs
      (from_mapped (λ f. covered at_or_below f vs ≡ true) (lowered_all s) other (covers.closed (map (lowered_all s) other) (closed_lowered g known s other closed)) k d lt);
  kept = λ letters m state u fits within is keeps.
      under_lifted s u vs
      (covers.kept (letters_lowered g.kind g s letters) m state (lowered_all s u) (machine_lowered g s m fits) within (vector_lowered g known s u is) (keeps_lowered g known m state s u keeps));
}

vector_lifted : (g : GameData) → IsGame g → (s : ℕ) (v : List ℤ) → IsVector g v → IsVector (raised_by s g) (lifted (pos s) v)
vector_lifted g known s v is =
    let size : length (lifted (pos s) v) ≡ length v = long v in
    let top : pos (bound g) ≡ g.k = pos-size_of g.k known.low in
    record {
      same_length = size ∙ is.same_length;
      low = λ q lt.
          let e : lane (lifted (pos s) v) q ≡ lane v q +ℤ pos s = each v q (omega arith) in
          let low = is.low q (omega arith) in
          rw e (more_low (lane v q) s low);
      high = λ q lt.
          let e : lane (lifted (pos s) v) q ≡ lane v q +ℤ pos s = each v q (omega arith) in
          rw e (more_high (lane v q) (bound g) s (subst (λ k. lane v q ≤ℤ k) (sym top) (is.high q (omega arith))));
    }
  where
    long : (w : List ℤ) → length (lifted (pos s) w) ≡ length w
    long [] = refl
    long (x ∷ w) = ap suc (long w)

    each : (w : List ℤ) (p : ℕ) → p < length w → lane (lifted (pos s) w) p ≡ lane w p +ℤ pos s
    each [] p lt = absurd (omega arith)
    each (x ∷ w) zero lt = refl
    each (x ∷ w) (suc p) lt = each w p (omega arith)

    more_low : (x : ℤ) (n : ℕ) → negsuc 0 ≤ℤ x → negsuc 0 ≤ℤ (x +ℤ pos n)
    more_low x n h = omega (arith, ints)

    more_high : (x : ℤ) (k n : ℕ) → x ≤ℤ pos k → (x +ℤ pos n) ≤ℤ pos (k + n)
    more_high x k n h = omega (arith, ints)

below_lifted : (by : ℤ) (u v : List ℤ) → at_or_below (lifted by u) (lifted by v) ≡ at_or_below u v
below_lifted by [] [] = refl
below_lifted by [] (y ∷ v) = refl
below_lifted by (x ∷ u) [] = refl
below_lifted by (x ∷ u) (y ∷ v) = both (int_le (x +ℤ by) (y +ℤ by)) (int_le x y) (at_or_below (lifted by u) (lifted by v)) (at_or_below u v) (same x y by) (below_lifted by u v)
  where
    same : (a b c : ℤ) → int_le (a +ℤ c) (b +ℤ c) ≡ int_le a b
    same a b c = grind (arith, ints)

    both : (a b : Bool) (c d : Bool) → a ≡ b → c ≡ d → (a && c) ≡ (b && d)
    both a b c d e f = rw (e, f) refl

apart_lifted : (by : ℤ) (vs : List (List ℤ)) → AllPairs IsApart vs → AllPairs IsApart (map (lifted by) vs)
apart_lifted by vs apart i j d less lt =
    let n : length (map (lifted by) vs) ≡ length vs = length_mapped (lifted by) vs in
    let within : j < length vs = omega arith in
    let h = apart i j [] less within in
    rw (get_or_default (map (lifted by) vs) i d [] (omega arith), get_or_default (map (lifted by) vs) j d [] lt, mapped_at (lifted by) vs i [] (omega arith), mapped_at (lifted by) vs j [] within)
    (below_lifted by (slice_index_or vs i []) (slice_index_or vs j []) ∙ h.0, below_lifted by (slice_index_or vs j []) (slice_index_or vs i []) ∙ h.1)

pub start_lifted : (g : GameData) → IsGame g → (s : ℕ) (vs : List (List ℤ)) → IsStart g vs → IsStart (raised_by s g) (map (lifted (pos s)) vs)
start_lifted g known s vs start = record {
  vectors = all_mapped (IsVector g) (IsVector (raised_by s g)) (lifted (pos s)) (vector_lifted g known s) vs start.vectors;
  apart = apart_lifted (pos s) vs start.apart;
  covers = covers_lifted g known s vs start.covers;
}

pub top_start : (g : GameData) → IsGame g → IsStart g (top g ∷ [])
top_start g known = record {
  vectors = All-cons (IsVector g) (top g) [] (vector-top g known) (All-nil (IsVector g));
  apart = λ i j d less lt. absurd (omega arith);
  covers = top_covers g;
}
