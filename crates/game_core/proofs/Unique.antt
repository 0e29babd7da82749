-- At most one ascending list of incomparable vectors covers what it covers.
use Rattle.std.proofs.Common.{◌≡◌, ◌⊎◌, inl, inr, ℕ, zero, suc, ◌<◌, Bool, true, false, ◌||◌, List, [], ◌∷◌, length, refl, sym, ◌∙◌, ap, subst, arith, true≢false}
use Rattle.std.specs.Prelude.{ℤ, slice_index_or}
use Rattle.std.specs.declared.cmp.Ordering.TheVariants.{Less}
use Rattle.antichain_list.specs.Antichain.{IsAntichain, IsFirst}
use Rattle.counter_vec.specs.Counters.{at_or_below, lexicographic}
use Rattle.counter_vec.specs.Orders.{counters_order}
use Rattle.std.proofs.lemmas.List.Elements.{recursion_from_All}
use Rattle.game_core.specs.Solved.{IsLost, IsSettled}
use Rattle.game_core.specs.Front.{under}
use Rattle.game_core.proofs.Boxes.{IsOf}
use Rattle.std.specs.List.{AllByRecursion}
use Rattle.counter_vec.specs.Orders.{below-refl, below-antisym}
use Rattle.game_form.specs.Game.{GameData}
use Rattle.game_form.specs.Held.{HasHeld, IsHeld}
use Rattle.game_form.specs.Vector.{IsVector}
use Rattle.cpre_step.specs.Refinement.{AreLeft}
use Rattle.game_core.proofs.Exact.{covered_back}
use Rattle.antichain_list.specs.Antichain.{IsBefore}

-- a member of a list at or above v
record Hit (v : List ℤ) (ys : List (List ℤ)) : Type 0 where
  y : List ℤ
  inside : IsOf y ys
  below : at_or_below v y ≡ true

hit : (v : List ℤ) (ys : List (List ℤ)) → under ys v ≡ true → Hit v ys
hit v [] h = absurd (true≢false (sym h))
hit v (e ∷ ys) h = go (at_or_below v e) refl (hit v ys) h
  where
    go : (b : Bool) → at_or_below v e ≡ b → (under ys v ≡ true → Hit v ys) → (b || under ys v) ≡ true → Hit v (e ∷ ys)
    go true below rest h = record { y = e; inside = inl refl; below = below }
    go false below rest h = let r = rest h in record { y = r.y; inside = inr r.inside; below = r.below }

or_true : (a b : Bool) → b ≡ true → (a || b) ≡ true
or_true true b h = refl
or_true false b h = h

self_under : (v : List ℤ) (xs : List (List ℤ)) → IsOf v xs → under xs v ≡ true
self_under v [] h = absurd h
self_under v (x ∷ xs) (inl e) = ap (λ b. b || under xs v) (subst (λ z. at_or_below v z ≡ true) e (below-refl v))
self_under v (x ∷ xs) (inr h) = or_true (at_or_below v x) (under xs v) (self_under v xs h)

first_of : (x y : List ℤ) (xs : List (List ℤ)) → IsFirst at_or_below lexicographic x xs → IsOf y xs → IsBefore at_or_below lexicographic x y
first_of x y [] first h = absurd h
first_of x y (z ∷ xs) first (inl e) = subst (IsBefore at_or_below lexicographic x) (sym e) first.0
first_of x y (z ∷ xs) first (inr h) = first_of x y xs first.1 h

-- no two members are comparable
alone : (v w : List ℤ) (xs : List (List ℤ)) → IsAntichain at_or_below lexicographic xs → IsOf v xs → IsOf w xs → at_or_below v w ≡ true → v ≡ w
alone v w [] a h k below = absurd h
alone v w (x ∷ xs) a (inl e) (inl f) below = e ∙ sym f
alone v w (x ∷ xs) a (inl e) (inr k) below =
    let b = first_of x w xs a.0 k in
    absurd (true≢false (sym below ∙ ap (λ z. at_or_below z w) e ∙ b.not_below))
alone v w (x ∷ xs) a (inr h) (inl f) below =
    let b = first_of x v xs a.0 h in
    absurd (true≢false (sym below ∙ ap (at_or_below v) f ∙ b.not_above))
alone v w (x ∷ xs) a (inr h) (inr k) below = alone v w xs a.1 h k below

of_other : (xs ys : List (List ℤ)) (v : List ℤ) → IsAntichain at_or_below lexicographic xs → ((u : List ℤ) → IsOf u xs → under ys u ≡ true) → ((u : List ℤ) → IsOf u ys → under xs u ≡ true)
    → IsOf v xs → IsOf v ys
of_other xs ys v a there back inside =
    let up = hit v ys (there v inside) in
    let down = hit up.y xs (back up.y up.inside) in
    let round : v ≡ down.y = alone v down.y xs a inside down.inside (counters_order.transitive v up.y down.y up.below down.below) in
    let same : v ≡ up.y = below-antisym v up.y up.below (subst (λ z. at_or_below up.y z ≡ true) (sym round) down.below) in
    subst (λ z. IsOf z ys) (sym same) up.inside

not_both : (x y : List ℤ) → lexicographic x y ≡ Less → lexicographic y x ≡ Less → ⊥
not_both x y h k = let e = counters_order.total.antisymm x y in cc

heads : (x y : List ℤ) (xs ys : List (List ℤ)) → IsFirst at_or_below lexicographic x xs → IsFirst at_or_below lexicographic y ys → (x ≡ y) ⊎ IsOf x ys → (y ≡ x) ⊎ IsOf y xs → x ≡ y
heads x y xs ys a b (inl e) k = e
heads x y xs ys a b (inr h) (inl e) = sym e
heads x y xs ys a b (inr h) (inr k) = absurd (not_both x y (first_of x y xs a k).ascends (first_of y x ys b h).ascends)

behind : (x y v : List ℤ) (xs ys : List (List ℤ)) → x ≡ y → IsFirst at_or_below lexicographic x xs → IsOf v xs → (v ≡ y) ⊎ IsOf v ys → IsOf v ys
behind x y v xs ys e a inside (inr h) = h
behind x y v xs ys e a inside (inl f) =
    let less : lexicographic x v ≡ Less = (first_of x v xs a inside).ascends in
    let same : v ≡ x = f ∙ sym e in
    absurd (not_both x x (ap (lexicographic x) (sym same) ∙ less) (ap (lexicographic x) (sym same) ∙ less))

cons_same : (x y : List ℤ) (xs ys : List (List ℤ)) → x ≡ y → xs ≡ ys → x ∷ xs ≡ y ∷ ys
cons_same x y xs ys e f = cc

same_members : (xs ys : List (List ℤ)) → IsAntichain at_or_below lexicographic xs → IsAntichain at_or_below lexicographic ys
    → ((v : List ℤ) → IsOf v xs → IsOf v ys) → ((v : List ℤ) → IsOf v ys → IsOf v xs) → xs ≡ ys
same_members [] [] a b there back = refl
same_members [] (y ∷ ys) a b there back = absurd (back y (inl refl))
same_members (x ∷ xs) [] a b there back = absurd (there x (inl refl))
same_members (x ∷ xs) (y ∷ ys) a b there back =
    let e : x ≡ y = heads x y xs ys a.0 b.0 (there x (inl refl)) (back y (inl refl)) in
    cons_same x y xs ys e
    (same_members xs ys a.1 b.1 (λ v h. behind x y v xs ys e a.0 h (there v (inr h))) (λ v h. behind y x v ys xs (sym e) b.0 h (back v (inr h))))

-- two ascending lists of incomparable vectors, each at or above the other one's members, are one
pub one_list : (xs ys : List (List ℤ)) → IsAntichain at_or_below lexicographic xs → IsAntichain at_or_below lexicographic ys
    → ((v : List ℤ) → IsOf v xs → under ys v ≡ true) → ((v : List ℤ) → IsOf v ys → under xs v ≡ true) → xs ≡ ys
one_list xs ys a b there back = same_members xs ys a b (λ v. of_other xs ys v a there back) (λ v. of_other ys xs v b back there)

member_has : (P : List ℤ → Type 0) (v : List ℤ) (xs : List (List ℤ)) → AllByRecursion P xs → IsOf v xs → P v
member_has P v [] h inside = absurd inside
member_has P v (x ∷ xs) h (inl e) = subst P (sym e) h.0
member_has P v (x ∷ xs) h (inr inside) = member_has P v xs h.1 inside

place_has : (P : List ℤ → Type 0) (v : List ℤ) (xs : List (List ℤ)) → ((i : ℕ) → i < length xs → P (slice_index_or xs i [])) → IsOf v xs → P v
place_has P v [] h inside = absurd inside
place_has P v (x ∷ xs) h (inl e) = subst P (sym e) (h zero (omega arith))
place_has P v (x ∷ xs) h (inr inside) = place_has P v xs (λ i lt. h (suc i) (omega arith)) inside

-- at most one ascending antichain is the list of the maximal held vectors
pub held_unique : (g : GameData) (xs ys : List (List ℤ)) → IsAntichain at_or_below lexicographic xs → IsAntichain at_or_below lexicographic ys → HasHeld g xs → HasHeld g ys → xs ≡ ys
held_unique g xs ys a b h k = one_list xs ys a b (above xs ys h k) (above ys xs k h)
  where
    above : (vs ws : List (List ℤ)) → HasHeld g vs → HasHeld g ws → (v : List ℤ) → IsOf v vs → under ws v ≡ true
    above vs ws h k v inside = covered_back ws v (k.all v (place_has (IsHeld g) v vs h.held inside))

-- what is left of a vector is one list
pub left_unique : (g : GameData) (list : List (List ℤ)) (f : List ℤ) (xs ys : List (List ℤ)) → AreLeft g list f xs → AreLeft g list f ys → xs ≡ ys
left_unique g list f xs ys h k = one_list xs ys h.antichain k.antichain (above xs ys h k) (above ys xs k h)
  where
    above : (vs ws : List (List ℤ)) → AreLeft g list f vs → AreLeft g list f ws → (v : List ℤ) → IsOf v vs → under ws v ≡ true
    above vs ws h k v inside =
        let is : IsVector g v = member_has (IsVector g) v vs h.vectors inside in
        k.covers v is ∙ sym (h.covers v is) ∙ self_under v vs inside

-- at most one ascending antichain is an answer
pub settled_unique : (g : GameData) (whole : Bool) (xs ys : List (List ℤ)) → IsAntichain at_or_below lexicographic xs → IsAntichain at_or_below lexicographic ys
    → IsSettled g whole xs → IsSettled g whole ys → xs ≡ ys
settled_unique g whole xs ys a b h k = one_list xs ys a b (above xs ys h k) (above ys xs k h)
  where
    above : (vs ws : List (List ℤ)) → IsSettled g whole vs → IsSettled g whole ws → (v : List ℤ) → IsOf v vs → under ws v ≡ true
    above vs ws h k v inside =
        member_has (λ e. under ws e ≡ true) v vs
        (recursion_from_All (λ e. under ws e ≡ true) vs (k.largest vs (record { vectors = h.vectors; closed = h.closed }))) inside

pub never_both : (g : GameData) (whole : Bool) (list : List (List ℤ)) → IsSettled g whole list → IsLost g whole → ⊥
never_both g whole list h lost = true≢false (sym (h.begins lost.asked) ∙ lost.missed list (record { vectors = h.vectors; closed = h.closed }))
