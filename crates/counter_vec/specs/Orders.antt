-- The laws of both orders.
use Rattle.std.proofs.Common.{◌≡◌, Bool, true, false, ◌&&◌, List, [], ◌∷◌, refl, arith}
use Rattle.std.specs.Prelude.{ℤ, int_le}
use Rattle.std.proofs.lemmas.Int.{ints}
use Rattle.std.specs.Ordering.{int_cmp, ordering_then}
use Rattle.std.proofs.lemmas.Cmp.{lists_total, int_cmp_total}
use Rattle.std.specs.declared.cmp.Ordering.{Ordering}
use Rattle.std.specs.declared.cmp.Ordering.TheVariants.{Less, Equal, Greater}
use Rattle.antichain_list.specs.Antichain.{IsEntryOrder}
use Rattle.counter_vec.specs.Counters.{at_or_below, lexicographic}

both : (a b : Bool) → a ≡ true → b ≡ true → (a && b) ≡ true
both a b h k = rw (h, k)

left : (a b : Bool) → (a && b) ≡ true → a ≡ true
left true b h = refl
left false b h = cc

right : (a b : Bool) → (a && b) ≡ true → b ≡ true
right true b h = h
right false b h = cc

int_le-refl : (x : ℤ) → int_le x x ≡ true
int_le-refl x = grind (arith, ints)

int_le-trans : (x y z : ℤ) → int_le x y ≡ true → int_le y z ≡ true → int_le x z ≡ true
int_le-trans x y z h k = grind (arith, ints)

int_le-antisym : (x y : ℤ) → int_le x y ≡ true → int_le y x ≡ true → x ≡ y
int_le-antisym x y h k = grind (arith, ints)

pub below-refl : (v : List ℤ) → at_or_below v v ≡ true
below-refl [] = refl
below-refl (x ∷ v) = both _ _ (int_le-refl x) (below-refl v)

pub below-trans : (u v w : List ℤ) → at_or_below u v ≡ true → at_or_below v w ≡ true → at_or_below u w ≡ true
below-trans [] [] [] h k = refl
below-trans [] [] (z ∷ w) h k = k
below-trans [] (y ∷ v) w h k = cc
below-trans (x ∷ u) [] w h k = cc
below-trans (x ∷ u) (y ∷ v) [] h k = k
below-trans (x ∷ u) (y ∷ v) (z ∷ w) h k =
    both _ _ (int_le-trans x y z (left _ _ h) (left _ _ k)) (below-trans u v w (right _ _ h) (right _ _ k))

pub below-antisym : (u v : List ℤ) → at_or_below u v ≡ true → at_or_below v u ≡ true → u ≡ v
below-antisym [] [] h k = refl
below-antisym [] (y ∷ v) h k = cc
below-antisym (x ∷ u) [] h k = cc
below-antisym (x ∷ u) (y ∷ v) h k =
    let e : x ≡ y = int_le-antisym x y (left _ _ h) (left _ _ k) in
    let f : u ≡ v = below-antisym u v (right _ _ h) (right _ _ k) in
    cc

int_cmp-equal : (x y : ℤ) → int_cmp x y ≡ Equal → x ≡ y
int_cmp-equal x y h = grind (arith, ints)

then_equal_left : (a b : Ordering) → ordering_then a b ≡ Equal → a ≡ Equal
then_equal_left Less b h = h
then_equal_left Equal b h = refl
then_equal_left Greater b h = h

then_equal_right : (a b : Ordering) → ordering_then a b ≡ Equal → b ≡ Equal
then_equal_right Less b h = cc
then_equal_right Equal b h = h
then_equal_right Greater b h = cc

lexicographic-equal : (u v : List ℤ) → lexicographic u v ≡ Equal → u ≡ v
lexicographic-equal [] [] h = refl
lexicographic-equal [] (y ∷ v) h = cc
lexicographic-equal (x ∷ u) [] h = cc
lexicographic-equal (x ∷ u) (y ∷ v) h =
    let e : x ≡ y = int_cmp-equal x y (then_equal_left _ _ h) in
    let f : u ≡ v = lexicographic-equal u v (then_equal_right _ _ h) in
    cc

pub counters_order : IsEntryOrder at_or_below lexicographic
counters_order = record {
  reflexive = below-refl;
  antisymmetric = below-antisym;
  transitive = below-trans;
  total = lists_total int_cmp_total;
  agrees = lexicographic-equal;
}
