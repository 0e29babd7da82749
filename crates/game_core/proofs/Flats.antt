-- Lists of vectors in which each one points to one at or above it.
use Rattle.std.proofs.Common.{◌≡◌, ◌≢◌, ◌⊎◌, inl, inr, ℕ, zero, suc, ◌+◌, ◌<◌, ◌≤◌, Bool, true, false, List, [], ◌∷◌, ◌++◌, length, take, take_all, refl, sym, ◌∙◌, ap, subst, arith, length-append, length-set, get_or-set_same, get_or-set_other}
use Rattle.std.specs.Prelude.{ℤ, nat_eq, nat_lt, slice_index_or, slice_set, if◌then◌else◌}
use Rattle.std.specs.List.{All, remove}
use Rattle.std.proofs.lemmas.Bool.{cases_eq, cases_lt}
use Rattle.std.proofs.lemmas.List.{get_or_append_left, get_or_push, get_or_default}
use Rattle.std.proofs.lemmas.List.Elements.{All-push}
use Rattle.std.proofs.lemmas.List.Edits.{get_or-remove_below, get_or-remove_above, length-remove}
use Rattle.std.proofs.lemmas.List.Folds.{Any-from_list_any, list_any_at}
use Rattle.counter_vec.specs.Counters.{at_or_below}
use Rattle.counter_vec.specs.Orders.{below-refl, below-trans}
use Rattle.game_core.specs.Flat.{IsFlat, over_at, low_at, moved_down, picked}
use Rattle.game_core.specs.Front.{Misses, under}

-- what those that point to themselves miss, all miss
pub flat_misses : (f : List ℤ) (lows : List (List ℤ)) (over : List ℕ) → IsFlat lows over
    → ((k : ℕ) → k < length lows → over_at over k ≡ k → at_or_below f (low_at lows k) ≡ false) → Misses f lows
flat_misses f lows over flat h k d lt = subst (λ (e : List ℤ). at_or_below f e ≡ false) (get_or_default lows k [] d lt) (go (at_or_below f (low_at lows k)) refl)
  where
    go : (b : Bool) → at_or_below f (low_at lows k) ≡ b → b ≡ false
    go false e = refl
    go true e =
        let t : ℕ = over_at over k in
        let hit : at_or_below f (low_at lows t) ≡ true = below-trans f (low_at lows k) (low_at lows t) e (flat.above k lt) in
        let miss : at_or_below f (low_at lows t) ≡ false = h t (flat.within k lt) (flat.flat k lt) in
        cc

-- a place that points to another is pointed elsewhere
pub flat_set : (lows : List (List ℤ)) (over : List ℕ) (i t : ℕ) → IsFlat lows over → i < length lows → over_at over i ≢ i → t < length lows
    → (t ≢ i → over_at over t ≡ t) → at_or_below (low_at lows i) (low_at lows t) ≡ true → IsFlat lows (slice_set over i t)
flat_set lows over i t flat lt apart within top above = record {
  same = length-set over i t ∙ flat.same;
  within = λ j in_j. go_within j in_j (cases_eq j i);
  flat = λ j in_j. go_flat j in_j (cases_eq j i) (cases_eq t i);
  above = λ j in_j. go_above j in_j (cases_eq j i);
}
  where
    here : over_at (slice_set over i t) i ≡ t
    here = get_or-set_same over i t 0 (let n = flat.same in omega arith)

    there : (j : ℕ) → j ≢ i → over_at (slice_set over i t) j ≡ over_at over j
    there j ne = get_or-set_other over i j t 0 ne

    go_within : (j : ℕ) → j < length lows → (j ≡ i) ⊎ (j ≢ i) → over_at (slice_set over i t) j < length lows
    go_within j in_j (inl e) = rw (e, here) within
    go_within j in_j (inr ne) = rw (there j ne) (flat.within j in_j)

    go_flat : (j : ℕ) → j < length lows → (j ≡ i) ⊎ (j ≢ i) → (t ≡ i) ⊎ (t ≢ i) → over_at (slice_set over i t) (over_at (slice_set over i t) j) ≡ over_at (slice_set over i t) j
    go_flat j in_j (inl e) (inl same) = ap (over_at (slice_set over i t)) (ap (over_at (slice_set over i t)) e ∙ here ∙ same) ∙ ap (over_at (slice_set over i t)) (sym e)
    go_flat j in_j (inl e) (inr other) =
        let is : over_at (slice_set over i t) j ≡ t = ap (over_at (slice_set over i t)) e ∙ here in
        ap (over_at (slice_set over i t)) is ∙ there t other ∙ top other ∙ sym is
    go_flat j in_j (inr ne) c =
        let is : over_at (slice_set over i t) j ≡ over_at over j = there j ne in
        let old : over_at over (over_at over j) ≡ over_at over j = flat.flat j in_j in
        let other : over_at over j ≢ i = λ e. apart (ap (over_at over) (sym e) ∙ old ∙ e) in
        ap (over_at (slice_set over i t)) is ∙ there (over_at over j) other ∙ old ∙ sym is

    go_above : (j : ℕ) → j < length lows → (j ≡ i) ⊎ (j ≢ i) → at_or_below (low_at lows j) (low_at lows (over_at (slice_set over i t) j)) ≡ true
    go_above j in_j (inl e) = rw (e, here) above
    go_above j in_j (inr ne) = rw (there j ne) (flat.above j in_j)

-- a place, in front of which one is put
abbrev moved_up : ℕ → ℕ → ℕ
moved_up gone j = if nat_lt j gone then j else j + 1

remove_at : {X : Type 0} (xs : List X) (gone j : ℕ) (d : X) → gone < length xs → slice_index_or (remove xs gone) j d ≡ slice_index_or xs (moved_up gone j) d
remove_at xs gone j d lt = go (cases_lt j gone)
  where
    low : j < gone → moved_up gone j ≡ j
    low h = grind arith

    high : gone ≤ j → moved_up gone j ≡ j + 1
    high h = grind arith

    go : (j < gone) ⊎ (gone ≤ j) → slice_index_or (remove xs gone) j d ≡ slice_index_or xs (moved_up gone j) d
    go (inl less) = rw (low less) (get_or-remove_below xs gone d j less lt)
    go (inr more) = rw (high more) (get_or-remove_above xs gone d j more lt)

up_down : (gone x : ℕ) → x ≢ gone → moved_up gone (moved_down gone x) ≡ x
up_down gone x ne = grind arith

down_within : (gone x n : ℕ) → x ≢ gone → x < n + 1 → gone < n + 1 → moved_down gone x < n
down_within gone x n ne lt h = grind arith

up_within : (gone j n : ℕ) → j < n → moved_up gone j < n + 1
up_within gone j n lt = grind arith

up_apart : (gone j : ℕ) → moved_up gone j ≢ gone
up_apart gone j e = grind arith

-- a place to which no other points is taken out
pub flat_removed : (lows : List (List ℤ)) (over new : List ℕ) (gone : ℕ) → IsFlat lows over → gone < length lows → ((j : ℕ) → j < length lows → j ≢ gone → over_at over j ≢ gone)
    → length new + 1 ≡ length over → ((j : ℕ) → j < length new → over_at new j ≡ moved_down gone (over_at (remove over gone) j)) → IsFlat (remove lows gone) new
flat_removed lows over new gone flat lt left len each = record {
  same = omega (arith, size, flat.same, len);
  within = λ j in_j.
      let old = in_old j in_j in
      rw (is j in_j) (down_within gone (over_at over (moved_up gone j)) (length (remove lows gone)) (kept j in_j) (omega (arith, size, flat.within (moved_up gone j) old)) (omega (arith, size)));
  flat = λ j in_j.
      let x : ℕ = over_at over (moved_up gone j) in
      let y : ℕ = moved_down gone x in
      let old = in_old j in_j in
      let in_y : y < length (remove lows gone) = down_within gone x (length (remove lows gone)) (kept j in_j) (omega (arith, size, flat.within (moved_up gone j) old)) (omega (arith, size)) in
      let back : moved_up gone y ≡ x = up_down gone x (kept j in_j) in
      ap (over_at new) (is j in_j) ∙ is y in_y ∙ ap (λ z. moved_down gone (over_at over z)) back ∙ ap (moved_down gone) (flat.flat (moved_up gone j) old) ∙ sym (is j in_j);
  above = λ j in_j.
      let x : ℕ = over_at over (moved_up gone j) in
      let old = in_old j in_j in
      let back : moved_up gone (moved_down gone x) ≡ x = up_down gone x (kept j in_j) in
      rw (is j in_j, remove_at lows gone j [] lt, remove_at lows gone (moved_down gone x) [] lt, back) (flat.above (moved_up gone j) old);
}
  where
    size : length (remove lows gone) + 1 ≡ length lows
    size = length-remove lows gone lt

    in_old : (j : ℕ) → j < length (remove lows gone) → moved_up gone j < length lows
    in_old j in_j = let h = up_within gone j (length (remove lows gone)) in_j in omega (arith, size, h)

    kept : (j : ℕ) → j < length (remove lows gone) → over_at over (moved_up gone j) ≢ gone
    kept j in_j = left (moved_up gone j) (in_old j in_j) (up_apart gone j)

    is : (j : ℕ) → j < length (remove lows gone) → over_at new j ≡ moved_down gone (over_at over (moved_up gone j))
    is j in_j = each j (omega (arith, size, flat.same, len)) ∙ ap (moved_down gone) (remove_at over gone j 0 (omega (arith, flat.same)))

-- a place in the stead of another
abbrev pub redirected : ℕ → ℕ → ℕ → ℕ
redirected from to x = if nat_eq x from then to else x

redirect_same : (from to x : ℕ) → x ≡ from → redirected from to x ≡ to
redirect_same from to x e = grind arith

redirect_other : (from to x : ℕ) → x ≢ from → redirected from to x ≡ x
redirect_other from to x ne = grind arith

pub flat_pointed : (lows : List (List ℤ)) (over new : List ℕ) (from to : ℕ) → IsFlat lows over → from < length lows → to < length lows → from ≢ to → over_at over to ≡ to
    → at_or_below (low_at lows from) (low_at lows to) ≡ true → length new ≡ length over → ((j : ℕ) → j < length lows → over_at new j ≡ redirected from to (over_at over j)) → IsFlat lows new
flat_pointed lows over new from to flat in_from in_to apart top above len each = record {
  same = len ∙ flat.same;
  within = λ j lt. go_within j lt (cases_eq (over_at over j) from);
  flat = λ j lt. go_flat j lt (cases_eq (over_at over j) from);
  above = λ j lt. go_above j lt (cases_eq (over_at over j) from);
}
  where
    there : (j : ℕ) → j < length lows → over_at over j ≡ from → over_at new j ≡ to
    there j lt e = each j lt ∙ redirect_same from to (over_at over j) e

    here : (j : ℕ) → j < length lows → over_at over j ≢ from → over_at new j ≡ over_at over j
    here j lt ne = each j lt ∙ redirect_other from to (over_at over j) ne

    top_new : over_at new to ≡ to
    top_new = here to in_to (λ e. apart (sym e ∙ top)) ∙ top

    go_within : (j : ℕ) → j < length lows → (over_at over j ≡ from) ⊎ (over_at over j ≢ from) → over_at new j < length lows
    go_within j lt (inl e) = rw (there j lt e) in_to
    go_within j lt (inr ne) = rw (here j lt ne) (flat.within j lt)

    go_flat : (j : ℕ) → j < length lows → (over_at over j ≡ from) ⊎ (over_at over j ≢ from) → over_at new (over_at new j) ≡ over_at new j
    go_flat j lt (inl e) = ap (over_at new) (there j lt e) ∙ top_new ∙ sym (there j lt e)
    go_flat j lt (inr ne) =
        let old : over_at over (over_at over j) ≡ over_at over j = flat.flat j lt in
        ap (over_at new) (here j lt ne) ∙ here (over_at over j) (flat.within j lt) (λ e. ne (sym old ∙ e)) ∙ old ∙ sym (here j lt ne)

    go_above : (j : ℕ) → j < length lows → (over_at over j ≡ from) ⊎ (over_at over j ≢ from) → at_or_below (low_at lows j) (low_at lows (over_at new j)) ≡ true
    go_above j lt (inl e) =
        rw (there j lt e) (below-trans (low_at lows j) (low_at lows from) (low_at lows to) (subst (λ k. at_or_below (low_at lows j) (low_at lows k) ≡ true) e (flat.above j lt)) above)
    go_above j lt (inr ne) = rw (here j lt ne) (flat.above j lt)

pub point_top : (over new : List ℕ) (from to n : ℕ) → to < n → from ≢ to → over_at over to ≡ to → ((j : ℕ) → j < n → over_at new j ≡ redirected from to (over_at over j)) → over_at new to ≡ to
point_top over new from to n lt apart top each = each to lt ∙ redirect_other from to (over_at over to) (λ e. apart (sym e ∙ top)) ∙ top

-- a vector more, which points to itself or to one that does
pub flat_pushed : (lows : List (List ℤ)) (over : List ℕ) (low : List ℤ) (to : ℕ) → IsFlat lows over → to ≤ length lows → (to < length lows → over_at over to ≡ to)
    → (to < length lows → at_or_below low (low_at lows to) ≡ true) → IsFlat (lows ++ low ∷ []) (over ++ to ∷ [])
flat_pushed lows over low to flat le top above = record {
  same = omega (arith, length-append over (to ∷ []), size, flat.same);
  within = λ j lt. go_within j (cases_lt j (length lows)) lt;
  flat = λ j lt. go_flat j (cases_lt j (length lows)) lt;
  above = λ j lt. go_above j (cases_lt j (length lows)) lt;
}
  where
    size : length (lows ++ low ∷ []) ≡ length lows + 1
    size = length-append lows (low ∷ [])

    old_over : (j : ℕ) → j < length lows → over_at (over ++ to ∷ []) j ≡ over_at over j
    old_over j lt = get_or_append_left over (to ∷ []) 0 j (omega (arith, flat.same))

    old_low : (j : ℕ) → j < length lows → low_at (lows ++ low ∷ []) j ≡ low_at lows j
    old_low j lt = get_or_append_left lows (low ∷ []) [] j lt

    new_over : (j : ℕ) → j ≡ length lows → over_at (over ++ to ∷ []) j ≡ to
    new_over j e = get_or_push over to 0 j (flat.same ∙ sym e)

    new_low : (j : ℕ) → j ≡ length lows → low_at (lows ++ low ∷ []) j ≡ low
    new_low j e = get_or_push lows low [] j (sym e)

    go_within : (j : ℕ) → (j < length lows) ⊎ (length lows ≤ j) → j < length (lows ++ low ∷ []) → over_at (over ++ to ∷ []) j < length (lows ++ low ∷ [])
    go_within j (inl less) lt = rw (old_over j less) (let h = flat.within j less in omega (arith, size))
    go_within j (inr more) lt = rw (new_over j (omega (arith, size))) (omega (arith, size))

    to_top : (to < length lows) ⊎ (length lows ≤ to) → over_at (over ++ to ∷ []) to ≡ to
    to_top (inl less) = old_over to less ∙ top less
    to_top (inr more) = new_over to (omega arith)

    go_flat : (j : ℕ) → (j < length lows) ⊎ (length lows ≤ j) → j < length (lows ++ low ∷ []) → over_at (over ++ to ∷ []) (over_at (over ++ to ∷ []) j) ≡ over_at (over ++ to ∷ []) j
    go_flat j (inl less) lt =
        let is : over_at (over ++ to ∷ []) j ≡ over_at over j = old_over j less in
        ap (over_at (over ++ to ∷ [])) is ∙ old_over (over_at over j) (flat.within j less) ∙ flat.flat j less ∙ sym is
    go_flat j (inr more) lt =
        let is : over_at (over ++ to ∷ []) j ≡ to = new_over j (omega (arith, size)) in
        ap (over_at (over ++ to ∷ [])) is ∙ to_top (cases_lt to (length lows)) ∙ sym is

    low_under : (to < length lows) ⊎ (length lows ≤ to) → at_or_below low (low_at (lows ++ low ∷ []) to) ≡ true
    low_under (inl less) = rw (old_low to less) (above less)
    low_under (inr more) = rw (new_low to (omega arith)) (below-refl low)

    go_above : (j : ℕ) → (j < length lows) ⊎ (length lows ≤ j) → j < length (lows ++ low ∷ []) → at_or_below (low_at (lows ++ low ∷ []) j) (low_at (lows ++ low ∷ []) (over_at (over ++ to ∷ []) j)) ≡ true
    go_above j (inl less) lt = rw (old_over j less, old_low j less, old_low (over_at over j) (flat.within j less)) (flat.above j less)
    go_above j (inr more) lt = rw (new_over j (omega (arith, size)), new_low j (omega (arith, size))) (low_under (cases_lt to (length lows)))

pub over_pushed : (lows : List (List ℤ)) (over : List ℕ) (to : ℕ) → IsFlat lows over → over_at (over ++ to ∷ []) (length lows) ≡ to
over_pushed lows over to flat = get_or_push over to 0 (length lows) flat.same

-- a place of the list
abbrev pub IsAmong : List ℕ → ℕ → Type 0
IsAmong places k = (p : ℕ) × (p < length places) × (over_at places p ≡ k)

pub among_pushed : (places : List ℕ) (k x : ℕ) → IsAmong places k → IsAmong (places ++ x ∷ []) k
among_pushed places k x h = (h.0, omega (arith, length-append places (x ∷ []), h.1), get_or_append_left places (x ∷ []) 0 h.0 h.1 ∙ h.2)

pub among_last : (places : List ℕ) (x : ℕ) → IsAmong (places ++ x ∷ []) x
among_last places x = (length places, omega (arith, length-append places (x ∷ [])), get_or_push places x 0 (length places) refl)

-- one place more, if it points to itself
pub among_more : (lows : List (List ℤ)) (over places new : List ℕ) (i : ℕ) → i < length lows → new ≡ (if nat_eq (over_at over i) i then places ++ i ∷ [] else places)
    → All (λ k. k < length lows) places × ((k : ℕ) → k < i → over_at over k ≡ k → IsAmong places k)
    → All (λ k. k < length lows) new × ((k : ℕ) → k < i + 1 → over_at over k ≡ k → IsAmong new k)
among_more lows over places new i lt is h = go (cases_eq (over_at over i) i)
  where
    tested : over_at over i ≡ i → new ≡ places ++ i ∷ []
    tested e = is ∙ taken (over_at over i) e
      where
        taken : (x : ℕ) → x ≡ i → (if nat_eq x i then places ++ i ∷ [] else places) ≡ places ++ i ∷ []
        taken x e = grind arith

    passed : over_at over i ≢ i → new ≡ places
    passed ne = is ∙ left (over_at over i) ne
      where
        left : (x : ℕ) → x ≢ i → (if nat_eq x i then places ++ i ∷ [] else places) ≡ places
        left x ne = grind arith

    go : (over_at over i ≡ i) ⊎ (over_at over i ≢ i) → All (λ k. k < length lows) new × ((k : ℕ) → k < i + 1 → over_at over k ≡ k → IsAmong new k)
    go (inl e) =
        subst (λ (xs : List ℕ). All (λ k. k < length lows) xs × ((k : ℕ) → k < i + 1 → over_at over k ≡ k → IsAmong xs k)) (sym (tested e))
        (All-push (λ k. k < length lows) places i h.0 lt, λ k less top. at k (cases_lt k i) less top)
      where
        at : (k : ℕ) → (k < i) ⊎ (i ≤ k) → k < i + 1 → over_at over k ≡ k → IsAmong (places ++ i ∷ []) k
        at k (inl less) lt top = among_pushed places k i (h.1 k less top)
        at k (inr more) lt top = subst (IsAmong (places ++ i ∷ [])) (omega arith) (among_last places i)
    go (inr ne) =
        subst (λ (xs : List ℕ). All (λ k. k < length lows) xs × ((k : ℕ) → k < i + 1 → over_at over k ≡ k → IsAmong xs k)) (sym (passed ne))
        (h.0, λ k less top. h.1 k (still k (cases_lt k i) less top) top)
      where
        still : (k : ℕ) → (k < i) ⊎ (i ≤ k) → k < i + 1 → over_at over k ≡ k → k < i
        still k (inl less) lt top = less
        still k (inr more) lt top = (let same : k ≡ i = omega arith in absurd (ne (subst (λ x. over_at over x ≡ x) same top)))

length_picked : (lows : List (List ℤ)) (places : List ℕ) → length (picked lows places) ≡ length places
length_picked lows [] = refl
length_picked lows (x ∷ places) = ap suc (length_picked lows places)

picked_at : (lows : List (List ℤ)) (places : List ℕ) (p : ℕ) (d : List ℤ) → p < length places → slice_index_or (picked lows places) p d ≡ low_at lows (over_at places p)
picked_at lows [] p d lt = absurd (omega arith)
picked_at lows (x ∷ places) zero d lt = refl
picked_at lows (x ∷ places) (suc p) d lt = picked_at lows places p d (omega arith)

pub picked_low : (lows : List (List ℤ)) (places : List ℕ) (j : ℕ) (p : List ℤ) → j < length places → over_at places j < length lows → p ≡ slice_index_or lows (over_at places j) p
    → p ≡ slice_index_or (picked lows places) j p
picked_low lows places j p lt within is = is ∙ get_or_default lows (over_at places j) p [] within ∙ sym (picked_at lows places j p lt)

pub picked_within : (lows : List (List ℤ)) (places : List ℕ) (j : ℕ) → j < length places → j < length (picked lows places)
picked_within lows places j lt = let n = length_picked lows places in omega arith

pub picked_all : (lows : List (List ℤ)) (places : List ℕ) (j : ℕ) → length places ≤ j → take j (picked lows places) ≡ picked lows places
picked_all lows places j le = take_all j (picked lows places) (let n = length_picked lows places in omega arith)

-- those that point to themselves are at or above what all are
pub tops_under : (lows : List (List ℤ)) (over places : List ℕ) → IsFlat lows over → All (λ i. i < length lows) places
    → ((k : ℕ) → k < length lows → over_at over k ≡ k → IsAmong places k) → (u : List ℤ) → under (picked lows places) u ≡ under lows u
tops_under lows over places flat within each u = same (under (picked lows places) u) (under lows u) there back
  where
    same : (a b : Bool) → (a ≡ true → b ≡ true) → (b ≡ true → a ≡ true) → a ≡ b
    same true b h k = sym (h refl)
    same false false h k = refl
    same false true h k = k refl

    there : under (picked lows places) u ≡ true → under lows u ≡ true
    there h =
        let w = Any-from_list_any (λ e. at_or_below u e) (picked lows places) h in
        let lt : w.0 < length places = (let n = length_picked lows places in let k = w.2 in omega arith) in
        let i : ℕ = over_at places w.0 in
        let is : low_at lows i ≡ w.1 = sym (picked_at lows places w.0 w.1 lt) ∙ w.3 in
        list_any_at (λ e. at_or_below u e) lows i [] (within w.0 0 lt) (subst (λ (e : List ℤ). at_or_below u e ≡ true) (sym is) w.4)

    back : under lows u ≡ true → under (picked lows places) u ≡ true
    back h =
        let w = Any-from_list_any (λ e. at_or_below u e) lows h in
        let t : ℕ = over_at over w.0 in
        let e : low_at lows w.0 ≡ w.1 = get_or_default lows w.0 [] w.1 w.2 ∙ w.3 in
        let hit : at_or_below u (low_at lows t) ≡ true = below-trans u (low_at lows w.0) (low_at lows t) (subst (λ (x : List ℤ). at_or_below u x ≡ true) (sym e) w.4) (flat.above w.0 w.2) in
        let a = each t (flat.within w.0 w.2) (flat.flat w.0 w.2) in
        list_any_at (λ x. at_or_below u x) (picked lows places) a.0 [] (let n = length_picked lows places in let k = a.1 in omega arith)
        (subst (λ (x : List ℤ). at_or_below u x ≡ true) (sym (picked_at lows places a.0 [] a.1 ∙ ap (low_at lows) a.2)) hit)

-- only a place that points to itself is pointed to
pub unpointed : (lows : List (List ℤ)) (over : List ℕ) (gone : ℕ) → IsFlat lows over → over_at over gone ≢ gone → (j : ℕ) → j < length lows → over_at over j ≢ gone
unpointed lows over gone flat apart j lt e = apart (subst (λ i. over_at over i ≡ i) e (flat.flat j lt))
