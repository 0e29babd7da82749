-- The maximal held vectors have one ascending list.
use Rattle.std.proofs.Common.{◌≡◌, ℕ, zero, suc, ◌<◌, Bool, List, [], ◌∷◌, length, get_or, refl, sym, ◌∙◌, ap, subst, arith}
use Rattle.std.specs.Prelude.{ℤ, ◌≤ℤ◌}
use Rattle.std.specs.List.{All, Contains}
use Rattle.std.specs.Ordering.{ordering_reverse}
use Rattle.std.specs.declared.cmp.Ordering.{Ordering}
use Rattle.std.specs.declared.cmp.Ordering.TheVariants.{Less}
use Rattle.std.proofs.lemmas.Int.{ints}
use Rattle.std.proofs.lemmas.List.{get_or_default}
use Rattle.antichain_list.specs.Antichain.{IsEntryOrder, IsFirst, IsAntichain}
use Rattle.counter_vec.specs.Counters.{at_or_below, lexicographic}
use Rattle.counter_vec.specs.Orders.{below-antisym, counters_order}
use Rattle.counter_vec.proofs.Vectors.{lanes-at_or_below}
use Rattle.game_form.specs.Game.{GameData}
use Rattle.game_form.specs.Held.{HasHeld}
use Rattle.game_form.specs.Vector.{lane, AtOrBelow}
use Rattle.dual_game.specs.Machines.{HeldListIsOne}

module _ {E : Type 0} (below : E → E → Bool) (order : E → E → Ordering) (laws : IsEntryOrder below order) where
  first_less : (x : E) (ys : List E) (k : ℕ) (d : E) → IsFirst below order x ys → k < length ys → order x (get_or ys k d) ≡ Less
  first_less x [] k d is l = absurd (omega arith)
  first_less x (y ∷ ys) zero d is l = is.0.ascends
  first_less x (y ∷ ys) (suc k) d is l = first_less x ys k d is.1 (omega arith)

  apart : (x y : E) → order x y ≡ Less → order y x ≡ Less → ⊥
  apart x y h k =
      let e : order x y ≡ ordering_reverse Less = laws.total.antisymm x y ∙ ap ordering_reverse k in
      cc

  heads : (x : E) (xs : List E) (y : E) (ys : List E) → IsFirst below order x xs → IsFirst below order y ys → Contains (y ∷ ys) x → Contains (x ∷ xs) y → x ≡ y
  heads x xs y ys p q a b = left a.0 a.1 a.2
    where
      right : order y x ≡ Less → (j : ℕ) → j < length (x ∷ xs) → get_or (x ∷ xs) j y ≡ y → x ≡ y
      right less zero l e = e
      right less (suc j) l e = absurd (apart x y (subst (λ z. order x z ≡ Less) e (first_less x xs j y p (omega arith))) less)

      left : (i : ℕ) → i < length (y ∷ ys) → get_or (y ∷ ys) i x ≡ x → x ≡ y
      left zero l e = sym e
      left (suc i) l e = right (subst (λ z. order y z ≡ Less) e (first_less y ys i x q (omega arith))) b.0 b.1 b.2

  behind : (x : E) (xs : List E) (y : E) (ys : List E) → IsFirst below order x xs → x ≡ y → All (Contains (y ∷ ys)) (x ∷ xs) → All (Contains ys) xs
  behind x xs y ys p e all k d l = from here.0 here.1 here.2
    where
      z : E
      z = get_or xs k d

      here : Contains (y ∷ ys) (get_or xs k d)
      here = all (suc k) d (omega arith)

      less : order x (get_or xs k d) ≡ Less
      less = first_less x xs k d p l

      from : (i : ℕ) → i < length (y ∷ ys) → get_or (y ∷ ys) i (get_or xs k d) ≡ get_or xs k d → Contains ys (get_or xs k d)
      from zero h is = absurd (apart x x (subst (λ u. order x u ≡ Less) (sym is ∙ sym e) less) (subst (λ u. order x u ≡ Less) (sym is ∙ sym e) less))
      from (suc i) h is = (i, omega arith, is)

  pub lists_equal : (xs ys : List E) → IsAntichain below order xs → IsAntichain below order ys → All (Contains ys) xs → All (Contains xs) ys → xs ≡ ys
  lists_equal [] [] p q a b = refl
  lists_equal [] (y ∷ ys) p q a b = let h = b 0 y (omega arith) in absurd (omega (arith, h.1))
  lists_equal (x ∷ xs) [] p q a b = let h = a 0 x (omega arith) in absurd (omega (arith, h.1))
  lists_equal (x ∷ xs) (y ∷ ys) p q a b =
      let e : x ≡ y = heads x xs y ys p.0 q.0 (a 0 x (omega arith)) (b 0 y (omega arith)) in
      let rest : xs ≡ ys = lists_equal xs ys p.1 q.1 (behind x xs y ys p.0 e a) (behind y ys x xs q.0 (sym e) b) in
      ap (λ z. z ∷ xs) e ∙ ap (λ zs. y ∷ zs) rest

at_most : (x y z : ℤ) → x ≤ℤ y → y ≤ℤ z → x ≤ℤ z
at_most x y z h k = grind (arith, ints)

below_then : (u v w : List ℤ) → AtOrBelow u v → AtOrBelow v w → AtOrBelow u w
below_then u v w h k = record {
  same_length = h.same_length ∙ k.same_length;
  below = λ p l. at_most (lane u p) (lane v p) (lane w p) (h.below p l) (k.below p (omega (arith, l, h.same_length)));
}

below_same : (u v : List ℤ) → AtOrBelow u v → AtOrBelow v u → u ≡ v
below_same u v h k =
    below-antisym u v (lanes-at_or_below u v (record { same_length = h.same_length; lanes = h.below })) (lanes-at_or_below v u (record { same_length = k.same_length; lanes = k.below }))

-- a member of one list is one of the other
held_in : (g : GameData) (u v : List (List ℤ)) → HasHeld g u → HasHeld g v → All (Contains v) u
held_in g u v left right k d l =
    let x : List ℤ = get_or u k [] in
    let c = right.all (get_or u k []) (left.held k l) in
    let b = left.all (get_or v c.0 []) (right.held c.0 c.1) in
    let back : k ≡ b.0 = left.antichain k b.0 l b.1 (below_then (get_or u k []) (get_or v c.0 []) (get_or u b.0 []) c.2 b.2) in
    let same : get_or u k [] ≡ get_or v c.0 [] = below_same (get_or u k []) (get_or v c.0 []) c.2 (subst (λ i. AtOrBelow (get_or v c.0 []) (get_or u i [])) (sym back) b.2) in
    let at : get_or u k d ≡ get_or u k [] = get_or_default u k d [] l in
    (c.0, c.1, get_or_default v c.0 (get_or u k d) [] c.1 ∙ sym same ∙ sym at)

pub held_list_is_one : HeldListIsOne
held_list_is_one g u v left right up down =
    lists_equal at_or_below lexicographic counters_order u v up down (held_in g u v left right) (held_in g v u right left)
