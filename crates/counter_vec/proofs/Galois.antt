-- A successor is at or below a vector exactly where the source is at or below its predecessor.
use Rattle.std.proofs.Common.{◌≡◌, ℕ, zero, suc, ◌+◌, ◌<◌, Bool, true, false, List, [], ◌∷◌, length, map, refl, sym, arith, subst}
use Rattle.std.specs.Prelude.{ℤ, pos, negsuc, ◌≤ℤ◌}
use Rattle.std.proofs.lemmas.Int.{ints, clamps}
use Rattle.std.proofs.lemmas.List.FromFn.{get_or-map-range_with_len, length-map-range_with_len}
use Rattle.game_form.specs.declared.actions.Step.{Step}
use Rattle.game_form.specs.Game.{GameData, lanes, action_at, row_at, IsGame}
use Rattle.game_form.specs.Vector.{IsVector, lane, vector, number, brought, arrived, allowed_for, allowed, bound, successor, predecessor}
use Rattle.counter_vec.proofs.Along.{pos-size_of, allowed_at_most}
use Rattle.counter_vec.specs.Counters.{at_or_below}
use Rattle.counter_vec.proofs.Vectors.{at_or_below-lanes, lanes-at_or_below, allowed_low}

-- one lane on each side
brought_allowed : (k : ℕ) (x y : ℤ) (r : ℕ) → x ≤ℤ pos k → negsuc 0 ≤ℤ x → negsuc 0 ≤ℤ y → y ≤ℤ pos k → brought k x r ≤ℤ y → x ≤ℤ allowed_for k y r
brought_allowed k x y zero hx lx ly hy h = hx
brought_allowed k (pos n) (pos m) (suc r) hx lx ly hy h = grind (arith, ints)
brought_allowed k (pos n) (negsuc m) (suc r) hx lx ly hy h = absurd (omega (arith, ints))
brought_allowed k (negsuc n) (pos m) (suc r) hx lx ly hy h = grind (arith, ints)
brought_allowed k (negsuc n) (negsuc m) (suc r) hx lx ly hy h = omega (arith, ints)

allowed_brought : (k : ℕ) (x y : ℤ) (r : ℕ) → negsuc 0 ≤ℤ y → y ≤ℤ pos k → x ≤ℤ allowed_for k y r → brought k x r ≤ℤ y
allowed_brought k (pos n) y zero ly hy h = ly
allowed_brought k (negsuc n) y zero ly hy h = ly
allowed_brought k (pos n) (pos m) (suc r) ly hy h = grind (arith, ints)
allowed_brought k (pos n) (negsuc m) (suc r) ly hy h = absurd (omega (arith, ints))
allowed_brought k (negsuc n) y (suc r) ly hy h = ly

-- what is brought to a lane is at most y where each lane brings at most y
arrived_each : (k : ℕ) (rows : List (List Step)) (f : List ℤ) (p q : ℕ) (y : ℤ) → arrived k rows f p ≤ℤ y → q < length rows → q < length f
    → brought k (lane f q) (number (row_at rows q) p) ≤ℤ y
arrived_each k [] f p q y h in_rows in_f = absurd (omega arith)
arrived_each k (row ∷ rows) [] p q y h in_rows in_f = absurd (omega arith)
arrived_each k (row ∷ rows) (x ∷ f) p zero y h in_rows in_f = omega (arith, ints, clamps)
arrived_each k (row ∷ rows) (x ∷ f) p (suc q) y h in_rows in_f = arrived_each k rows f p q y (omega (arith, ints, clamps)) (omega arith) (omega arith)

each_arrived : (k : ℕ) (rows : List (List Step)) (f : List ℤ) (p : ℕ) (y : ℤ) → negsuc 0 ≤ℤ y
    → ((q : ℕ) → q < length rows → q < length f → brought k (lane f q) (number (row_at rows q) p) ≤ℤ y) → arrived k rows f p ≤ℤ y
each_arrived k [] f p y low each = low
each_arrived k (row ∷ rows) [] p y low each = low
each_arrived k (row ∷ rows) (x ∷ f) p y low each =
    let rest = each_arrived k rows f p y low (λ q a b. each (suc q) (omega arith) (omega arith)) in
    let first = each 0 (omega arith) (omega arith) in
    omega (arith, ints, clamps)

-- a lane is at most what is allowed where each lane allows it
allowed_each : (k : ℕ) (row : List Step) (p : ℕ) (v : List ℤ) (x : ℤ) (i : ℕ) → x ≤ℤ allowed k row p v → i < length v → x ≤ℤ allowed_for k (lane v i) (number row (p + i))
allowed_each k row p [] x i h lt = absurd (omega arith)
allowed_each k row p (y ∷ v) x zero h lt =
    let e : p + 0 ≡ p = omega arith in rw e (omega (arith, ints, clamps))
allowed_each k row p (y ∷ v) x (suc i) h lt =
    let e : p + suc i ≡ suc p + i = omega arith in
    rw e (allowed_each k row (suc p) v x i (omega (arith, ints, clamps)) (omega arith))

each_allowed : (k : ℕ) (row : List Step) (p : ℕ) (v : List ℤ) (x : ℤ) → x ≤ℤ pos k → ((i : ℕ) → i < length v → x ≤ℤ allowed_for k (lane v i) (number row (p + i))) → x ≤ℤ allowed k row p v
each_allowed k row p [] x most each = most
each_allowed k row p (y ∷ v) x most each =
    let e : p + 0 ≡ p = omega arith in
    let first : x ≤ℤ allowed_for k y (number row p) = subst (λ q. x ≤ℤ allowed_for k y (number row q)) e (each 0 (omega arith)) in
    let rest = each_allowed k row (suc p) v x most (λ i lt. let f : suc p + i ≡ p + suc i = omega arith in rw f (each (suc i) (omega arith))) in
    omega (arith, ints, clamps)

lane-map : (f : List Step → ℤ) (rows : List (List Step)) (q : ℕ) → q < length rows → lane (map f rows) q ≡ f (row_at rows q)
lane-map f [] q lt = absurd (omega arith)
lane-map f (row ∷ rows) zero lt = refl
lane-map f (row ∷ rows) (suc q) lt = lane-map f rows q (omega arith)

length-mapped : (f : List Step → ℤ) (rows : List (List Step)) → length (map f rows) ≡ length rows
length-mapped f [] = refl
length-mapped f (row ∷ rows) = omega (arith, length-mapped f rows)

lane-vector : (f : ℕ → ℤ) (n p : ℕ) → p < n → lane (vector n f) p ≡ f p
lane-vector f n p lt = get_or-map-range_with_len f 0 n p p (pos 0) lt (omega arith)

pub record AreFit (k n : ℕ) (v : List ℤ) : Type 0 where
  pub same_length : length v ≡ n
  pub low : (q : ℕ) → q < length v → negsuc 0 ≤ℤ lane v q
  pub high : (q : ℕ) → q < length v → lane v q ≤ℤ pos k

module _ (k n : ℕ) (rows : List (List Step)) (height : length rows ≡ n) (u v : List ℤ) (fu : AreFit k n u) (fv : AreFit k n v) where
  forth : at_or_below (vector n (arrived k rows u)) v ≡ true → at_or_below u (map (λ row. allowed k row 0 v) rows) ≡ true
  forth h =
      let below = at_or_below-lanes (vector n (arrived k rows u)) v h in
      let lu = fu.same_length in
      let lv = fv.same_length in
      let lm = length-mapped (λ row. allowed k row 0 v) rows in
      lanes-at_or_below u (map (λ row. allowed k row 0 v) rows) (record {
        same_length = omega arith;
        lanes = λ q lt. subst (λ y. lane u q ≤ℤ y) (sym (lane-map (λ row. allowed k row 0 v) rows q (omega arith)))
            (each_allowed k (row_at rows q) 0 v (lane u q) (fu.high q lt)
            (λ p in_v.
            let z : 0 + p ≡ p = omega arith in
            subst (λ r. lane u q ≤ℤ allowed_for k (lane v p) (number (row_at rows q) r)) (sym z) (brought_allowed k (lane u q) (lane v p) (number (row_at rows q) p) (fu.high q lt) (fu.low q lt) (fv.low p in_v) (fv.high p in_v)
            (let in_n : p < n = omega arith in
            let in_s : p < length (vector n (arrived k rows u)) = omega (arith, length-map-range_with_len (arrived k rows u) 0 n) in
            let here : arrived k rows u p ≤ℤ lane v p = subst (λ y. y ≤ℤ lane v p) (lane-vector (arrived k rows u) n p in_n) (below.lanes p in_s) in
            arrived_each k rows u p q (lane v p) here (omega arith) (omega arith)))));
      })

  back : at_or_below u (map (λ row. allowed k row 0 v) rows) ≡ true → at_or_below (vector n (arrived k rows u)) v ≡ true
  back h =
      let below = at_or_below-lanes _ _ h in
      let lu = fu.same_length in
      let lv = fv.same_length in
      let lr = length-map-range_with_len (arrived k rows u) 0 n in
      lanes-at_or_below _ v (record {
        same_length = omega arith;
        lanes = λ p lt. subst (λ y. y ≤ℤ lane v p) (sym (lane-vector (arrived k rows u) n p (omega arith)))
            (each_arrived k rows u p (lane v p) (fv.low p (omega arith))
            (λ q in_rows in_u. allowed_brought k (lane u q) (lane v p) (number (row_at rows q) p) (fv.low p (omega arith)) (fv.high p (omega arith))
            (let z : 0 + p ≡ p = omega arith in
            subst (λ r. lane u q ≤ℤ allowed_for k (lane v p) (number (row_at rows q) r)) z
            (allowed_each k (row_at rows q) 0 v (lane u q) p
            (subst (λ y. lane u q ≤ℤ y) (lane-map (λ row. allowed k row 0 v) rows q in_rows) (below.lanes q in_u)) (omega arith)))));
      })

  pub same_test : at_or_below (vector n (arrived k rows u)) v ≡ at_or_below u (map (λ row. allowed k row 0 v) rows)
  same_test = same_bool _ _ forth back
    where
      same_bool : (a b : Bool) → (a ≡ true → b ≡ true) → (b ≡ true → a ≡ true) → a ≡ b
      same_bool true b h k = sym (h refl)
      same_bool false true h k = k refl
      same_bool false false h k = refl

pub fit : (g : GameData) → IsGame g → (v : List ℤ) → IsVector g v → AreFit (bound g) (lanes g) v
fit g known v is = record {
  same_length = is.same_length;
  low = is.low;
  high = λ q lt. subst (λ k. lane v q ≤ℤ k) (sym (pos-size_of g.k known.low)) (is.high q lt);
}

-- the successor of u is at or below v exactly where u is at or below the predecessor of v
pub galois : (g : GameData) → IsGame g → (a : ℕ) → a < length g.actions → (u v : List ℤ) → IsVector g u → IsVector g v
    → at_or_below (successor g a u) v ≡ at_or_below u (predecessor g a v)
galois g known a lt u v is_u is_v = same_test (bound g) (lanes g) (action_at g a) (known.actions a lt).height u v (fit g known u is_u) (fit g known v is_v)

lane_vector_low : (k : ℕ) (rows : List (List Step)) (v : List ℤ) (q : ℕ) → q < length (map (λ row. allowed k row 0 v) rows) → negsuc 0 ≤ℤ lane (map (λ row. allowed k row 0 v) rows) q
lane_vector_low k rows v q lt =
    rw (lane-map (λ row. allowed k row 0 v) rows q (omega (arith, length-mapped (λ row. allowed k row 0 v) rows))) (allowed_low k (row_at rows q) 0 v)

-- a predecessor is a vector of the game
pub vector-predecessor : (g : GameData) → IsGame g → (a : ℕ) → a < length g.actions → (v : List ℤ) → IsVector g (predecessor g a v)
vector-predecessor g known a lt v =
    let height = (known.actions a lt).height in
    let len = length-mapped (λ row. allowed (bound g) row 0 v) (action_at g a) in
    record {
      same_length = omega arith;
      low = lane_vector_low (bound g) (action_at g a) v;
      high = λ q in_q. subst (λ k. lane (predecessor g a v) q ≤ℤ k) (pos-size_of g.k known.low)
          (let e : lane (predecessor g a v) q ≡ allowed (bound g) (row_at (action_at g a) q) 0 v = lane-map (λ row. allowed (bound g) row 0 v) (action_at g a) q (omega arith) in
          rw e (allowed_at_most (bound g) (row_at (action_at g a) q) 0 v));
    }
