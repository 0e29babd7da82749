-- A list of incomparable vectors that are held, and cover what is held, is exactly the maximal held vectors.
use Rattle.std.proofs.Common.{◌≡◌, ◌⊎◌, inl, inr, zero, suc, ◌<◌, ◌≤◌, true, List, [], ◌∷◌, sym, ◌∙◌, ap, arith, true≢false}
use Rattle.std.specs.Prelude.{ℤ, slice_index_or}
use Rattle.std.specs.List.{All, AllPairs}
use Rattle.std.proofs.lemmas.Bool.{cases_lt}
use Rattle.std.proofs.lemmas.List.{get_or_default}
use Rattle.std.proofs.lemmas.List.Elements.{All-from_get_or, All-from_recursion, recursion_from_All}
use Rattle.std.proofs.lemmas.List.Folds.{Any-from_list_any, list_any_at}
use Rattle.antichain_list.specs.Antichain as antichain
use Rattle.antichain_list.specs.Antichain.{IsFirst}
use Rattle.counter_vec.specs.Counters.{at_or_below, lexicographic}
use Rattle.game_form.specs.Game.{GameData}
use Rattle.game_form.specs.Predecessor.{Covered}
use Rattle.game_form.specs.Held.{IsAntichain, IsHeld, HasHeld}
use Rattle.game_core.specs.Board.{puts}
use Rattle.game_core.specs.Front.{IsApart, under}
use Rattle.game_core.proofs.Kept.{all_puts}
use Rattle.game_core.proofs.Orders.{below_from, below_lane, below_length}

covered_from : (list : List (List ℤ)) (v : List ℤ) → under list v ≡ true → Covered list v
covered_from list v h =
    let r = Any-from_list_any (λ e. at_or_below v e) list h in
    let e : List ℤ = slice_index_or list r.0 [] in
    let below : at_or_below v e ≡ true = ap (at_or_below v) (get_or_default list r.0 [] r.1 r.2 ∙ r.3) ∙ r.4 in
    (r.0, r.2, record { same_length = below_length v e below; below = λ p lt. below_lane v e p below lt })

pub covered_back : (list : List (List ℤ)) (v : List ℤ) → Covered list v → under list v ≡ true
covered_back list v c = list_any_at (λ e. at_or_below v e) list c.0 [] c.1 (below_from v (slice_index_or list c.0 []) c.2.same_length c.2.below)

first_apart : (x : List ℤ) (xs : List (List ℤ)) → IsFirst at_or_below lexicographic x xs → All (IsApart x) xs
first_apart x [] h k d lt = absurd (omega arith)
first_apart x (y ∷ xs) h zero d lt = (h.0.not_below, h.0.not_above)
first_apart x (y ∷ xs) h (suc k) d lt = first_apart x xs h.1 k d (omega arith)

-- ascending lists of incomparable vectors
pub apart_from : (list : List (List ℤ)) → antichain.IsAntichain at_or_below lexicographic list → AllPairs IsApart list
apart_from [] h i j d less lt = absurd (omega arith)
apart_from (x ∷ xs) h zero zero d less lt = absurd (omega arith)
apart_from (x ∷ xs) h zero (suc j) d less lt = first_apart x xs h.0 j d (omega arith)
apart_from (x ∷ xs) h (suc i) zero d less lt = absurd (omega arith)
apart_from (x ∷ xs) h (suc i) (suc j) d less lt = apart_from xs h.1 i j d (omega arith) (omega arith)

pub antichain_from : (list : List (List ℤ)) → AllPairs IsApart list → IsAntichain list
antichain_from list apart i j in_i in_j h = go (cases_lt i j)
  where
    hit : at_or_below (slice_index_or list i []) (slice_index_or list j []) ≡ true
    hit = below_from (slice_index_or list i []) (slice_index_or list j []) h.same_length h.below

    back : (j < i) ⊎ (i ≤ j) → j ≤ i → i ≡ j
    back (inl less) le = absurd (true≢false (sym hit ∙ (apart j i [] less in_i).1))
    back (inr ge) le = omega arith

    go : (i < j) ⊎ (j ≤ i) → i ≡ j
    go (inl less) = absurd (true≢false (sym hit ∙ (apart i j [] less in_j).0))
    go (inr le) = back (cases_lt j i) le

pub has_held : (g : GameData) (list : List (List ℤ)) → AllPairs IsApart list → All (IsHeld g) list → ((v : List ℤ) → IsHeld g v → under list v ≡ true) → HasHeld g list
has_held g list apart held covers = record {
  antichain = antichain_from list apart;
  held = λ i lt. held i [] lt;
  all = λ v h. covered_from list v (covers v h);
}

-- the same vectors as a downset lists them
pub has_held_puts : (g : GameData) (vectors : List (List ℤ)) → HasHeld g vectors → antichain.IsAntichain at_or_below lexicographic (puts [] vectors)
    → ((v : List ℤ) → under (puts [] vectors) v ≡ under vectors v) → HasHeld g (puts [] vectors)
has_held_puts g vectors h ascends same =
    has_held g (puts [] vectors) (apart_from (puts [] vectors) ascends)
    (All-from_recursion (IsHeld g) (puts [] vectors) (all_puts (IsHeld g) [] vectors tt (recursion_from_All (IsHeld g) vectors (All-from_get_or (IsHeld g) vectors [] h.held))))
    (λ v held. same v ∙ covered_back vectors v (h.all v held))
