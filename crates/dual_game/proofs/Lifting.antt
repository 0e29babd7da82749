-- The maximal held vectors of the whole game are those of the game of classes, lifted, in the same order.
use Rattle.std.proofs.Common.{◌≡◌, ℕ, zero, suc, ◌+◌, ◌<◌, Bool, true, false, cond, List, [], ◌∷◌, length, map, get_or, Some, refl, sym, ◌∙◌, ap, subst, arith}
use Rattle.std.specs.Prelude.{ℤ, negsuc, ◌≤ℤ◌, ◌≢◌}
use Rattle.std.specs.List.{position_from}
use Rattle.std.specs.Ordering.{int_cmp, ordering_then}
use Rattle.std.specs.declared.cmp.Ordering.{Ordering}
use Rattle.std.specs.declared.cmp.Ordering.TheVariants.{Less, Equal, Greater}
use Rattle.std.proofs.lemmas.Int.{ints}
use Rattle.std.proofs.lemmas.List.{get_or-map, length-map}
use Rattle.word_core.specs.Automaton.{AutomatonData}
use Rattle.antichain_list.specs.Antichain as ascending
use Rattle.counter_vec.specs.Counters.{at_or_below, lexicographic}
use Rattle.counter_vec.proofs.Vectors.{at_or_below-lanes, lanes-at_or_below, lexicographic_at}
use Rattle.game_form.specs.Game.{GameData}
use Rattle.game_form.specs.Held.{IsAntichain, IsHeld, HasHeld}
use Rattle.game_form.specs.Predecessor.{Covered}
use Rattle.game_form.specs.Vector.{lane, AtOrBelow}
use Rattle.nba_quotient.specs.Ways.{class_at}
use Rattle.strategy_play.specs.Lead.{place_above}
use Rattle.dual_game.proofs.Shadow.{IsShadow}
use Rattle.dual_game.proofs.Alike.{AreAlike, lifted, lifted_at, lifted_stands, folded, folded_stands, held_down, held_up, below_up, below_down}

same_test : (b c : Bool) → (b ≡ true → c ≡ true) → (c ≡ true → b ≡ true) → b ≡ c
same_test true c to from = sym (to refl)
same_test false true to from = from refl
same_test false false to from = refl

int_cmp-equal : (x y : ℤ) → int_cmp x y ≡ Equal → x ≡ y
int_cmp-equal x y h = grind (arith, ints)

int_cmp-less : (x y : ℤ) → int_cmp x y ≡ Less → x ≢ y
int_cmp-less x y h = grind (arith, ints)

-- the first lane that differs has the smaller number in the smaller vector
record IsLess (x y : List ℤ) : Type 0 where
  place : ℕ
  within : place < length x
  before : (p : ℕ) → p < place → lane x p ≡ lane y p
  smaller : int_cmp (lane x place) (lane y place) ≡ Less

less_from : (x y : List ℤ) → length x ≡ length y → lexicographic x y ≡ Less → IsLess x y
less_from [] [] size h = absurd (cc)
less_from [] (z ∷ y) size h = absurd (omega (arith, size))
less_from (u ∷ x) [] size h = absurd (omega (arith, size))
less_from (u ∷ x) (z ∷ y) size h = by (int_cmp u z) refl (less_from x y (omega (arith, size))) h
  where
    by : (o : Ordering) → int_cmp u z ≡ o → (lexicographic x y ≡ Less → IsLess x y) → ordering_then o (lexicographic x y) ≡ Less → IsLess (u ∷ x) (z ∷ y)
    by Less e rest h = record { place = zero; within = omega arith; before = λ p l. absurd (omega arith); smaller = e }
    by Equal e rest h =
        let r = rest h in
        record { place = suc r.place; within = omega (arith, r.within); before = before r (int_cmp-equal u z e); smaller = r.smaller }
      where
        before : (r : IsLess x y) → u ≡ z → (p : ℕ) → p < suc r.place → lane (u ∷ x) p ≡ lane (z ∷ y) p
        before r e zero l = e
        before r e (suc p) l = r.before p (omega arith)
    by Greater e rest h = absurd (cc)

-- each of the vectors has so many lanes
abbrev pub AreLong : ℕ → List (List ℤ) → Type 0
AreLong n vs = (i : ℕ) → i < length vs → length (get_or vs i []) ≡ n

long_rest : (n : ℕ) (v : List ℤ) (vs : List (List ℤ)) → AreLong n (v ∷ vs) → AreLong n vs
long_rest n v vs long i l = long (suc i) (omega arith)

module _ (a q : AutomatonData) (of : List ℕ) (g h : GameData) (alike : AreAlike a q of g h) where
  abbrev Stands : List ℤ → List ℤ → Type 0
  Stands v w = IsShadow of (length a.states) (length q.states) v w

  abbrev Long : List (List ℤ) → Type 0
  Long vs = AreLong (length q.states) vs

  pub at_same : (v w e : List ℤ) → Stands v w → length e ≡ length q.states → at_or_below v (lifted of e) ≡ at_or_below w e
  at_same v w e stands size = same_test (at_or_below v (lifted of e)) (at_or_below w e)
      (λ t. let b = at_or_below-lanes v (lifted of e) t in
      let d = below_down a q of g h alike v w e stands size (record { same_length = b.same_length; below = b.lanes }) in
      lanes-at_or_below w e (record { same_length = d.same_length; lanes = d.below }))
      (λ t. let b = at_or_below-lanes w e t in
      let u = below_up a q of g h alike v w e stands (record { same_length = b.same_length; below = b.lanes }) in
      lanes-at_or_below v (lifted of e) (record { same_length = u.same_length; lanes = u.below }))

  -- the first entry at or above a vector is in the same place
  pub place_same : (entries : List (List ℤ)) (v w : List ℤ) → Long entries → Stands v w → place_above (map (lifted of) entries) v ≡ place_above entries w
  place_same entries v w long stands = from 0 entries long
    where
      from : (n : ℕ) (es : List (List ℤ)) → Long es → position_from (λ e. at_or_below v e) n (map (lifted of) es) ≡ position_from (λ e. at_or_below w e) n es
      from n [] long = refl
      from n (e ∷ es) long =
          ap (λ b. cond b (Some n) (position_from (λ e. at_or_below v e) (n + 1) (map (lifted of) es))) (at_same v w e stands (long 0 (omega arith)))
          ∙ ap (cond (at_or_below w e) (Some n)) (from (n + 1) es (long_rest (length q.states) e es long))

  less_lifted : (x y : List ℤ) → length x ≡ length q.states → length y ≡ length q.states → lexicographic x y ≡ Less → lexicographic (lifted of x) (lifted of y) ≡ Less
  less_lifted x y long_x long_y less =
      let r = less_from x y (long_x ∙ sym long_y) less in
      let first = alike.folding.firsts r.place (subst (λ n. r.place < n) long_x r.within) in
      let s = first.0 in
      let in_s : s < length a.states = omega (arith, first.1.within, alike.folding.each) in
      let size = length-map of (λ c. lane x c) in
      let size_y = length-map of (λ c. lane y c) in
      let here : int_cmp (lane (lifted of x) s) (lane (lifted of y) s) ≡ Less =
      ap (λ z. int_cmp z (lane (lifted of y) s)) (at x s in_s r.place first.1.class) ∙ ap (int_cmp (lane x r.place)) (at y s in_s r.place first.1.class) ∙ r.smaller in
      sym (lexicographic_at (lifted of x) (lifted of y) s (omega (arith, first.1.within)) (omega (arith, first.1.within))
      (λ t l. at x t (omega (arith, l, in_s)) (class_at of t) refl ∙ r.before (class_at of t) (first.1.before t l) ∙ sym (at y t (omega (arith, l, in_s)) (class_at of t) refl))
      (int_cmp-less (lane (lifted of x) s) (lane (lifted of y) s) here)) ∙ here
    where
      at : (w : List ℤ) (s : ℕ) → s < length a.states → (c : ℕ) → class_at of s ≡ c → lane (lifted of w) s ≡ lane w c
      at w s l c e = lifted_at a q of g h alike w s l ∙ ap (lane w) e

  -- lifted entries ascend, and no two are comparable
  first_lifted : (x : List ℤ) (ys : List (List ℤ)) → length x ≡ length q.states → Long ys → ascending.IsFirst at_or_below lexicographic x ys
      → ascending.IsFirst at_or_below lexicographic (lifted of x) (map (lifted of) ys)
  first_lifted x [] long_x long is = tt
  first_lifted x (y ∷ ys) long_x long is =
      let long_y : length y ≡ length q.states = long 0 (omega arith) in (
        record {
          ascends = less_lifted x y long_x long_y is.0.ascends;
          not_below = at_same (lifted of x) x y (lifted_stands a q of g h alike x long_x) long_y ∙ is.0.not_below;
          not_above = at_same (lifted of y) y x (lifted_stands a q of g h alike y long_y) long_x ∙ is.0.not_above;
        },
        first_lifted x ys long_x (long_rest (length q.states) y ys long) is.1,
      )

  pub ascends_lifted : (entries : List (List ℤ)) → Long entries → ascending.IsAntichain at_or_below lexicographic entries → ascending.IsAntichain at_or_below lexicographic (map (lifted of) entries)
  ascends_lifted [] long is = tt
  ascends_lifted (x ∷ xs) long is =
      let rest : Long xs = long_rest (length q.states) x xs long in
      (first_lifted x xs (long 0 (omega arith)) rest is.0, ascends_lifted xs rest is.1)

  pub long_held : (entries : List (List ℤ)) → HasHeld h entries → Long entries
  long_held entries held i l = (held.held i l).vector.same_length ∙ alike.small_lanes

  lifted_entry : (entries : List (List ℤ)) (i : ℕ) → i < length entries → get_or (map (lifted of) entries) i [] ≡ lifted of (get_or entries i [])
  lifted_entry entries i l = get_or-map (lifted of) entries i [] [] l

  -- the maximal held vectors
  pub held_lifted : (entries : List (List ℤ)) → HasHeld h entries → HasHeld g (map (lifted of) entries)
  held_lifted entries held = record { antichain = apart; held = each; all = all }
    where
      size : length (map (lifted of) entries) ≡ length entries
      size = length-map entries (lifted of)

      apart : IsAntichain (map (lifted of) entries)
      apart i j li lj below =
          let in_i : i < length entries = omega (arith, li, size) in
          let in_j : j < length entries = omega (arith, lj, size) in
          let u = get_or entries i [] in
          let w = get_or entries j [] in
          let b : AtOrBelow (lifted of (get_or entries i [])) (lifted of (get_or entries j [])) =
          subst (λ x. AtOrBelow x (lifted of (get_or entries j []))) (lifted_entry entries i in_i) (subst (AtOrBelow (get_or (map (lifted of) entries) i [])) (lifted_entry entries j in_j) below) in
          held.antichain i j in_i in_j
          (below_down a q of g h alike (lifted of u) u w (lifted_stands a q of g h alike u (long_held entries held i in_i)) (long_held entries held j in_j) b)

      each : (i : ℕ) → i < length (map (lifted of) entries) → IsHeld g (get_or (map (lifted of) entries) i [])
      each i l =
          let m : i < length entries = omega (arith, l, size) in
          let u = get_or entries i [] in
          let long = long_held entries held i m in
          let is = held.held i m in
          subst (IsHeld g) (sym (lifted_entry entries i m))
          (held_up a q of g h alike (lifted of u) u (lifted_stands a q of g h alike u long)
          (λ s in_s.
          let t : s < length a.states = omega (arith, in_s, length-map of (λ c. lane (get_or entries i []) c), alike.folding.each) in
          subst (λ x. negsuc 0 ≤ℤ x) (sym (lifted_at a q of g h alike (get_or entries i []) s t))
          (is.vector.low (class_at of s) (omega (arith, alike.folding.classes s t, long)))) is)

      all : (v : List ℤ) → IsHeld g v → Covered (map (lifted of) entries) v
      all v is =
          let w = folded a q of g h alike v in
          let stands = folded_stands a q of g h alike v (is.vector.same_length ∙ alike.whole_lanes) is.vector.low in
          let c = held.all (folded a q of g h alike v) (held_down a q of g h alike v (folded a q of g h alike v) stands is) in
          (c.0, omega (arith, c.1, size), subst (AtOrBelow v) (sym (lifted_entry entries c.0 c.1)) (below_up a q of g h alike v (folded a q of g h alike v) (get_or entries c.0 []) stands c.2))
