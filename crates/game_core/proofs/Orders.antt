-- The order of vectors, lane by lane, and the meet.
use Rattle.std.proofs.Common.{◌≡◌, ℕ, zero, suc, ◌<◌, Bool, true, false, ◌&&◌, List, [], ◌∷◌, length, map, refl, ◌∙◌, ap, arith}
use Rattle.std.specs.Prelude.{ℤ, int_le, ◌≤ℤ◌}
use Rattle.std.specs.Int.{int_min}
use Rattle.std.proofs.lemmas.Int.{ints}
use Rattle.counter_vec.specs.Counters.{at_or_below, met}
use Rattle.counter_vec.specs.Orders.{below-trans}
use Rattle.game_form.specs.Game.{GameData, IsGame, lanes, action_at}
use Rattle.game_form.specs.Vector.{IsVector, lane, predecessor}
use Rattle.game_core.specs.Front.{IsPiece}

left : (a b : Bool) → (a && b) ≡ true → a ≡ true
left true b h = refl
left false b h = cc

right : (a b : Bool) → (a && b) ≡ true → b ≡ true
right true b h = h
right false b h = cc

both : (a b : Bool) → a ≡ true → b ≡ true → (a && b) ≡ true
both a b h k = rw (h, k)

le_test : (x y : ℤ) → x ≤ℤ y → int_le x y ≡ true
le_test x y h = grind (arith, ints)

le_fact : (x y : ℤ) → int_le x y ≡ true → x ≤ℤ y
le_fact x y h = grind (arith, ints)

-- what holds lane by lane
pub below_from : (u v : List ℤ) → length u ≡ length v → ((p : ℕ) → p < length u → lane u p ≤ℤ lane v p) → at_or_below u v ≡ true
below_from [] [] e h = refl
below_from [] (y ∷ v) e h = cc
below_from (x ∷ u) [] e h = cc
below_from (x ∷ u) (y ∷ v) e h =
    both _ _ (le_test x y (h zero (omega arith)))
    (below_from u v (omega (arith, e)) (λ p lt. h (suc p) (omega arith)))

pub below_length : (u v : List ℤ) → at_or_below u v ≡ true → length u ≡ length v
below_length [] [] h = refl
below_length [] (y ∷ v) h = cc
below_length (x ∷ u) [] h = cc
below_length (x ∷ u) (y ∷ v) h = ap suc (below_length u v (right _ _ h))

pub below_lane : (u v : List ℤ) (p : ℕ) → at_or_below u v ≡ true → p < length u → lane u p ≤ℤ lane v p
below_lane [] v p h lt = absurd (omega arith)
below_lane (x ∷ u) [] p h lt = cc
below_lane (x ∷ u) (y ∷ v) zero h lt = le_fact x y (left _ _ h)
below_lane (x ∷ u) (y ∷ v) (suc p) h lt = below_lane u v p (right _ _ h) (omega arith)

min_left : (x y : ℤ) → int_min x y ≤ℤ x
min_left x y = grind (arith, ints)

min_right : (x y : ℤ) → int_min x y ≤ℤ y
min_right x y = grind (arith, ints)

-- the meet of two vectors is at or below both
pub met_left : (u v : List ℤ) → length u ≡ length v → at_or_below (met u v) u ≡ true
met_left [] v e = refl
met_left (x ∷ u) [] e = cc
met_left (x ∷ u) (y ∷ v) e = both _ _ (le_test (int_min x y) x (min_left x y)) (met_left u v (omega (arith, e)))

pub met_right : (u v : List ℤ) → length u ≡ length v → at_or_below (met u v) v ≡ true
met_right [] [] e = refl
met_right [] (y ∷ v) e = cc
met_right (x ∷ u) [] e = cc
met_right (x ∷ u) (y ∷ v) e = both _ _ (le_test (int_min x y) y (min_right x y)) (met_right u v (omega (arith, e)))

-- what misses the greater misses the smaller
pub misses_below : (f m p : List ℤ) → at_or_below f p ≡ false → at_or_below m p ≡ true → at_or_below f m ≡ false
misses_below f m p miss h = go (at_or_below f m) refl
  where
    go : (b : Bool) → at_or_below f m ≡ b → b ≡ false
    go false e = refl
    go true e = let k : at_or_below f p ≡ true = below-trans f m p e h in cc

le_trans : (x y z : ℤ) → x ≤ℤ y → y ≤ℤ z → x ≤ℤ z
le_trans x y z h k = grind (arith, ints)

-- a piece of a vector of the game is one
pub piece_vector : (g : GameData) (f p : List ℤ) → IsVector g f → IsPiece f p → IsVector g p
piece_vector g f p v h = record {
  same_length = below_length p f h.below ∙ v.same_length;
  low = h.low;
  high = λ q lt. le_trans _ _ _ (below_lane p f q h.below lt) (v.high q (let e : length p ≡ length f = below_length p f h.below in omega arith));
}

length_map : {X Y : Type 0} (f : X → Y) (xs : List X) → length (map f xs) ≡ length xs
length_map f [] = refl
length_map f (x ∷ xs) = ap suc (length_map f xs)

pub length_predecessor : (g : GameData) (a : ℕ) (v : List ℤ) → IsGame g → a < length g.actions → length (predecessor g a v) ≡ lanes g
length_predecessor g a v h lt = length_map _ (action_at g a) ∙ (h.actions a lt).height
