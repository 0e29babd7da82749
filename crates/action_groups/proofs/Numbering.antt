-- Pairs of which one of each number is kept, and the numbers of these.
use Rattle.std.proofs.Common.{◌≡◌, ℕ, zero, suc, ◌+◌, ◌-◌, ◌<◌, ◌≤◌, ◌⊎◌, inl, inr, Bool, true, false, List, [], ◌∷◌, ◌++◌, length, get_or, set, replicate, refl, sym, ap, ◌∙◌, subst, arith}
use Rattle.std.specs.List.{All, AllPairs, Contains}
use Rattle.std.specs.List.Sorted.{IsPermutation, IsSorted}
use Rattle.std.specs.Ordering.{MatchOrdering, nat_cmp, ordering_then, is_lt}
use Rattle.std.specs.declared.cmp.Ordering.{Ordering}
use Rattle.std.specs.declared.cmp.Ordering.TheVariants.{Less, Equal, Greater}
use Rattle.std.proofs.lemmas.Bool.{cases_eq, cases_lt}
use Rattle.std.proofs.lemmas.Cmp.{ranked}
use Rattle.std.proofs.lemmas.List.{get_or_append_left, get_or_push, length_push, get_or-set_same, get_or-set_other, get_or-replicate, get_or_past, length-replicate}
use Rattle.std.proofs.lemmas.List.Elements.{All-push, All-cons, All-nil, All-weaker, Contains-get_or}
use Rattle.std.proofs.lemmas.List.Quantifiers.{all_pairs_push}
use Rattle.std.proofs.lemmas.List.Sorted.{All-permutation, Contains-permutation, IsPermutation-sym}
use Rattle.action_groups.specs.Labels.{HasNumber, HasAtMost, pair_at}
use Rattle.action_groups.specs.Options.{IsOnce}
use Rattle.action_groups.specs.Rank.{IsNumbering}
use Rattle.action_groups.proofs.Splits.{most_left, most_right}

abbrev IsSeen : List Bool → ℕ → Type 0
IsSeen seen n = get_or seen n false ≡ true

abbrev IsPlaceOf : List (ℕ × ℕ) → ℕ → ℕ → Type 0
IsPlaceOf order n number = (number < length order) × ((pair_at order number).1 ≡ n)

-- what may stand in front of another pair that is kept
abbrev pub IsInFront : ℕ × ℕ → ℕ × ℕ → Type 0
IsInFront p q = (p.0 ≤ q.0) × (p.1 ≡ q.1 → ⊥)

abbrev pub AreAscending : List (ℕ × ℕ) → Type 0
AreAscending pairs = AllPairs (λ p q. p.0 ≤ q.0) pairs

-- no pair from a place on has a smaller valuation
abbrev IsBelowFrom : List (ℕ × ℕ) → ℕ → ℕ × ℕ → Type 0
IsBelowFrom pairs upto p = (j : ℕ) → upto ≤ j → j < length pairs → p.0 ≤ (pair_at pairs j).0

-- of the first pairs one of each number is kept
pub record AreKept (pairs : List (ℕ × ℕ)) (upto : ℕ) (seen : List Bool) (kept : List (ℕ × ℕ)) : Type 0 where
  pub each : All (Contains pairs) kept
  pub noted : (n : ℕ) → get_or seen n false ≡ true → HasNumber kept n
  pub known : All (λ p. get_or seen p.1 false ≡ true) kept
  pub passed : (j : ℕ) → j < upto → HasAtMost kept (pair_at pairs j).1 (pair_at pairs j).0
  pub low : All (λ p. (j : ℕ) → upto ≤ j → j < length pairs → p.0 ≤ (pair_at pairs j).0) kept
  pub rising : AllPairs (λ p q. (p.0 ≤ q.0) × (p.1 ≡ q.1 → ⊥)) kept

-- of the first pairs each number has a place in the order
pub record AreRanked (pairs : List (ℕ × ℕ)) (upto : ℕ) (seen : List Bool) (order : List (ℕ × ℕ)) (numbers : List ℕ) : Type 0 where
  pub kept : AreKept pairs upto seen order
  pub noted : (n : ℕ) → get_or seen n false ≡ true → (get_or numbers n 0 < length order) × ((pair_at order (get_or numbers n 0)).1 ≡ n)

-- what a sort leaves
in_order : (s t : ℕ × ℕ) (a b : Ordering) → MatchOrdering a (t.0 < s.0) (t.0 ≡ s.0) (s.0 < t.0) → is_lt (ordering_then a b) ≡ false → s.0 ≤ t.0
in_order s t Less b h e = absurd (cc)
in_order s t Equal b h e = omega arith
in_order s t Greater b h e = omega arith

rising_by : (pairs : List (ℕ × ℕ)) (j n : ℕ) → ((k : ℕ) → k + 1 < length pairs → (pair_at pairs k).0 ≤ (pair_at pairs (k + 1)).0) → j + n < length pairs → (pair_at pairs j).0 ≤ (pair_at pairs (j + n)).0
rising_by pairs j zero up lt = (let e : j + 0 ≡ j = omega arith in subst (λ k. (pair_at pairs j).0 ≤ (pair_at pairs k).0) (sym e) (omega arith))
rising_by pairs j (suc n) up lt =
    let e : j + suc n ≡ j + n + 1 = omega arith in
    let r : (pair_at pairs j).0 ≤ (pair_at pairs (j + n)).0 = rising_by pairs j n up (omega arith) in
    let s : (pair_at pairs (j + n)).0 ≤ (pair_at pairs (j + n + 1)).0 = up (j + n) (omega arith) in
    subst (λ k. (pair_at pairs j).0 ≤ (pair_at pairs k).0) (sym e) (omega arith)

get_or_same : (pairs : List (ℕ × ℕ)) (j : ℕ) (d : ℕ × ℕ) → j < length pairs → pair_at pairs j ≡ get_or pairs j d
get_or_same [] j d lt = absurd (omega arith)
get_or_same (p ∷ pairs) zero d lt = refl
get_or_same (p ∷ pairs) (suc j) d lt = get_or_same pairs j d (omega arith)

pub ascending : (pairs : List (ℕ × ℕ)) → IsSorted (λ (x y : ℕ × ℕ). ordering_then (nat_cmp x.0 y.0) (nat_cmp x.1 y.1)) pairs → AreAscending pairs
ascending pairs h i j d lt inside =
    let e : i + (j - i) ≡ j = omega arith in
    let up : (k : ℕ) → k + 1 < length pairs → (pair_at pairs k).0 ≤ (pair_at pairs (k + 1)).0 = λ k more.
    (let s : ℕ × ℕ = pair_at pairs k in
    let t : ℕ × ℕ = pair_at pairs (k + 1) in
    in_order s t (nat_cmp t.0 s.0) (nat_cmp t.1 s.1) (ranked t.0 s.0 _ refl) (h k (0, 0) (omega arith) more)) in
    let r : (pair_at pairs i).0 ≤ (pair_at pairs j).0 = subst (λ k. (pair_at pairs i).0 ≤ (pair_at pairs k).0) e (rising_by pairs i (j - i) up (omega arith)) in
    subst (λ (p : ℕ × ℕ). p.0 ≤ (get_or pairs j d).0) (get_or_same pairs i d (omega arith)) (subst (λ (p : ℕ × ℕ). (pair_at pairs i).0 ≤ p.0) (get_or_same pairs j d inside) r)

below_from : (pairs : List (ℕ × ℕ)) (i : ℕ) → AreAscending pairs → i < length pairs → IsBelowFrom pairs (i + 1) (pair_at pairs i)
below_from pairs i up lt j le inside = up i j (0, 0) (omega arith) inside

none_seen : (count n : ℕ) → get_or (replicate count false) n false ≡ false
none_seen count n = go (cases_lt n count)
  where
    go : (n < count) ⊎ (count ≤ n) → get_or (replicate count false) n false ≡ false
    go (inl lt) = get_or-replicate count n false false lt
    go (inr le) = get_or_past (replicate count false) n false (omega (arith, length-replicate count false))

-- what is seen after one more number
seen_other : (seen : List Bool) (m n : ℕ) → (n ≡ m → ⊥) → IsSeen (set seen m true) n → IsSeen seen n
seen_other seen m n ne h = sym (get_or-set_other seen m n true false ne) ∙ h

seen_still : (seen : List Bool) (m n : ℕ) → m < length seen → IsSeen seen n → IsSeen (set seen m true) n
seen_still seen m n lt h = go (cases_eq n m)
  where
    go : (n ≡ m) ⊎ (n ≡ m → ⊥) → IsSeen (set seen m true) n
    go (inl e) = ap (λ k. get_or (set seen m true) k false) e ∙ get_or-set_same seen m true false lt
    go (inr ne) = get_or-set_other seen m n true false ne ∙ h

-- the first pair
pub kept_first : (pairs : List (ℕ × ℕ)) (count : ℕ) (seen : List Bool) (kept : List (ℕ × ℕ)) → AreAscending pairs → 0 < length pairs → (pair_at pairs 0).1 < count → seen ≡ set (replicate count false) (pair_at pairs 0).1 true → kept ≡ pair_at pairs 0 ∷ [] → AreKept pairs 1 seen kept
kept_first pairs count seen kept up some lt es ek =
    let p : ℕ × ℕ = pair_at pairs 0 in
    let start : List Bool = replicate count false in
    let within : p.1 < length start = omega (arith, length-replicate count false) in
    let Known : ℕ × ℕ → Type 0 = λ q. IsSeen (set start p.1 true) q.1 in
    subst (λ s. AreKept pairs 1 s kept) (sym es) (subst (AreKept pairs 1 (set start p.1 true)) (sym ek) (record {
      each = All-cons (Contains pairs) p [] (Contains-get_or pairs 0 (0, 0) some) (All-nil (Contains pairs));
      noted = λ n h. noted n h (cases_eq n p.1);
      known = All-cons Known p [] (get_or-set_same start p.1 true false within) (All-nil Known);
      passed = λ j l. (let e : j ≡ 0 = omega arith in subst (λ k. HasAtMost (p ∷ []) (pair_at pairs k).1 (pair_at pairs k).0) (sym e) (0, omega arith, refl, omega arith));
      low = All-cons (IsBelowFrom pairs 1) p [] (below_from pairs 0 up some) (All-nil (IsBelowFrom pairs 1));
      rising = λ i j d l inside. absurd (omega arith);
    }))
  where
    noted : (n : ℕ) → IsSeen (set (replicate count false) (pair_at pairs 0).1 true) n → (n ≡ (pair_at pairs 0).1) ⊎ (n ≡ (pair_at pairs 0).1 → ⊥) → HasNumber (pair_at pairs 0 ∷ []) n
    noted n h (inl e) = (0, omega arith, sym e)
    noted n h (inr ne) =
        let s : get_or (replicate count false) n false ≡ true = seen_other (replicate count false) (pair_at pairs 0).1 n ne h in
        let f : get_or (replicate count false) n false ≡ false = none_seen count n in
        absurd (cc)

number_left : (kept more : List (ℕ × ℕ)) (n : ℕ) → HasNumber kept n → HasNumber (kept ++ more) n
number_left kept more n w =
    let lt : w.0 < length kept = w.1 in
    let m = most_left kept more n (pair_at kept w.0).0 (w.0, w.1, w.2, omega arith) in
    (m.0, m.1, m.2)

number_last : (kept : List (ℕ × ℕ)) (p : ℕ × ℕ) → HasNumber (kept ++ p ∷ []) p.1
number_last kept p =
    let m = most_right kept (p ∷ []) p.1 p.0 (0, omega arith, refl, omega arith) in
    (m.0, m.1, m.2)

-- a pair of a new number
pub kept_more : (pairs : List (ℕ × ℕ)) (i : ℕ) (seen now : List Bool) (kept after : List (ℕ × ℕ)) → AreAscending pairs → i < length pairs → (pair_at pairs i).1 < length seen → get_or seen (pair_at pairs i).1 false ≡ false → now ≡ set seen (pair_at pairs i).1 true → after ≡ kept ++ pair_at pairs i ∷ [] → AreKept pairs i seen kept → AreKept pairs (i + 1) now after
kept_more pairs i seen now kept after up lt within new en ea h =
    let p : ℕ × ℕ = pair_at pairs i in
    let Known : ℕ × ℕ → Type 0 = λ q. IsSeen (set seen p.1 true) q.1 in
    let Old : ℕ × ℕ → Type 0 = λ q. IsSeen seen q.1 in
    subst (λ s. AreKept pairs (i + 1) s after) (sym en) (subst (AreKept pairs (i + 1) (set seen p.1 true)) (sym ea) (record {
      each = All-push (Contains pairs) kept p h.each (Contains-get_or pairs i (0, 0) lt);
      noted = λ n s. noted n s (cases_eq n p.1);
      known = All-push Known kept p (All-weaker Old Known (λ q s. seen_still seen p.1 q.1 within s) kept h.known) (get_or-set_same seen p.1 true false within);
      passed = λ j l. passed j l (cases_lt j i);
      low = All-push (IsBelowFrom pairs (i + 1)) kept p (All-weaker (IsBelowFrom pairs i) (IsBelowFrom pairs (i + 1)) (λ q b j le inside. b j (omega arith) inside) kept h.low) (below_from pairs i up lt);
      rising = all_pairs_push IsInFront kept p h.rising (λ k d inside. (h.low k d inside i (omega arith) lt, λ e. apart (get_or kept k d).1 (h.known k d inside) e));
    }))
  where
    apart : (n : ℕ) → IsSeen seen n → n ≡ (pair_at pairs i).1 → ⊥
    apart n s e = (let t : get_or seen (pair_at pairs i).1 false ≡ true = subst (IsSeen seen) e s in absurd (cc))

    noted : (n : ℕ) → IsSeen (set seen (pair_at pairs i).1 true) n → (n ≡ (pair_at pairs i).1) ⊎ (n ≡ (pair_at pairs i).1 → ⊥) → HasNumber (kept ++ pair_at pairs i ∷ []) n
    noted n s (inl e) = subst (HasNumber (kept ++ pair_at pairs i ∷ [])) (sym e) (number_last kept (pair_at pairs i))
    noted n s (inr ne) = number_left kept (pair_at pairs i ∷ []) n (h.noted n (seen_other seen (pair_at pairs i).1 n ne s))

    passed : (j : ℕ) → j < i + 1 → (j < i) ⊎ (i ≤ j) → HasAtMost (kept ++ pair_at pairs i ∷ []) (pair_at pairs j).1 (pair_at pairs j).0
    passed j l (inl b) = most_left kept (pair_at pairs i ∷ []) (pair_at pairs j).1 (pair_at pairs j).0 (h.passed j b)
    passed j l (inr b) =
        let e : j ≡ i = omega arith in
        subst (λ k. HasAtMost (kept ++ pair_at pairs i ∷ []) (pair_at pairs k).1 (pair_at pairs k).0) (sym e)
        (most_right kept (pair_at pairs i ∷ []) (pair_at pairs i).1 (pair_at pairs i).0 (0, omega arith, refl, omega arith))

-- a pair of a number that was seen
pub kept_same : (pairs : List (ℕ × ℕ)) (i : ℕ) (seen : List Bool) (kept : List (ℕ × ℕ)) → i < length pairs → get_or seen (pair_at pairs i).1 false ≡ true → AreKept pairs i seen kept → AreKept pairs (i + 1) seen kept
kept_same pairs i seen kept lt here h = record {
  each = h.each;
  noted = h.noted;
  known = h.known;
  passed = λ j l. passed j l (cases_lt j i);
  low = All-weaker (IsBelowFrom pairs i) (IsBelowFrom pairs (i + 1)) (λ q b j le inside. b j (omega arith) inside) kept h.low;
  rising = h.rising;
}
  where
    passed : (j : ℕ) → j < i + 1 → (j < i) ⊎ (i ≤ j) → HasAtMost kept (pair_at pairs j).1 (pair_at pairs j).0
    passed j l (inl b) = h.passed j b
    passed j l (inr b) =
        let e : j ≡ i = omega arith in
        let w = h.noted (pair_at pairs i).1 here in
        subst (λ k. HasAtMost kept (pair_at pairs k).1 (pair_at pairs k).0) (sym e) (w.0, w.1, w.2, h.low w.0 (0, 0) w.1 i (omega arith) lt)

pub kept_all : (pairs : List (ℕ × ℕ)) (i : ℕ) (seen : List Bool) (kept : List (ℕ × ℕ)) → length pairs ≤ i → AreKept pairs i seen kept → IsOnce pairs kept
kept_all pairs i seen kept le h = record {
  each = h.each;
  all = λ j d lt. subst (λ (p : ℕ × ℕ). HasAtMost kept p.1 p.0) (get_or_same pairs j d lt) (h.passed j (omega arith));
  rising = h.rising;
}

-- the pairs in another order
pub once_permuted : (pairs sorted kept : List (ℕ × ℕ)) → IsPermutation pairs sorted → IsOnce sorted kept → IsOnce pairs kept
once_permuted pairs sorted kept moved h =
    let back : IsPermutation sorted pairs = IsPermutation-sym pairs sorted moved in
    let P : ℕ × ℕ → Type 0 = λ p. HasAtMost kept p.1 p.0 in
    record {
      each = All-weaker (Contains sorted) (Contains pairs) (λ p w. Contains-permutation sorted pairs p back w) kept h.each;
      all = All-permutation P sorted pairs back h.all;
      rising = h.rising;
    }

zero_at : (count n : ℕ) → n < count → get_or (replicate {A = ℕ} count 0) n 0 ≡ 0
zero_at count n lt = get_or-replicate {A = ℕ} count n 0 0 lt

first_place : (count : ℕ) (p : ℕ × ℕ) (n : ℕ) → p.1 < count → HasNumber (p ∷ []) n → IsPlaceOf (p ∷ []) n (get_or (replicate count 0) n 0)
first_place count p n lt w =
    let below : w.0 < 1 = w.1 in
    let first : w.0 ≡ 0 = omega arith in
    let at : p.1 ≡ n = ap (λ j. (pair_at (p ∷ []) j).1) (sym first) ∙ w.2 in
    let inside : n < count = omega arith in
    let number : get_or (replicate {A = ℕ} count 0) n 0 ≡ 0 = zero_at count n inside in
    (omega arith, ap (λ j. (pair_at (p ∷ []) j).1) number ∙ at)

-- the first pair has the first number
pub ranked_first : (pairs : List (ℕ × ℕ)) (count : ℕ) (seen : List Bool) (order : List (ℕ × ℕ)) → AreAscending pairs → 0 < length pairs → (pair_at pairs 0).1 < count → seen ≡ set (replicate count false) (pair_at pairs 0).1 true → order ≡ pair_at pairs 0 ∷ [] → AreRanked pairs 1 seen order (replicate count 0)
ranked_first pairs count seen order up some lt es eo =
    let k = kept_first pairs count seen order up some lt es eo in
    record {
      kept = k;
      noted = λ n h. subst (λ o. IsPlaceOf o n (get_or (replicate count 0) n 0)) (sym eo)
          (first_place count (pair_at pairs 0) n lt (subst (λ o. HasNumber o n) eo (k.noted n h)));
    }

-- a pair of a new number has the next one
pub ranked_more : (pairs : List (ℕ × ℕ)) (i : ℕ) (seen now : List Bool) (order after : List (ℕ × ℕ)) (numbers next : List ℕ) → AreAscending pairs → i < length pairs → (pair_at pairs i).1 < length seen → (pair_at pairs i).1 < length numbers → get_or seen (pair_at pairs i).1 false ≡ false → now ≡ set seen (pair_at pairs i).1 true → after ≡ order ++ pair_at pairs i ∷ [] → next ≡ set numbers (pair_at pairs i).1 (length order) → AreRanked pairs i seen order numbers → AreRanked pairs (i + 1) now after next
ranked_more pairs i seen now order after numbers next up lt within inside new en ea ex h = record {
  kept = kept_more pairs i seen now order after up lt within new en ea h.kept;
  noted = λ n s.
      subst (λ o. IsPlaceOf o n (get_or next n 0)) (sym ea) (subst (λ ns. IsPlaceOf (order ++ pair_at pairs i ∷ []) n (get_or ns n 0)) (sym ex)
      (noted n (subst (λ l. IsSeen l n) en s) (cases_eq n (pair_at pairs i).1)));
}
  where
    noted : (n : ℕ) → IsSeen (set seen (pair_at pairs i).1 true) n → (n ≡ (pair_at pairs i).1) ⊎ (n ≡ (pair_at pairs i).1 → ⊥) → IsPlaceOf (order ++ pair_at pairs i ∷ []) n (get_or (set numbers (pair_at pairs i).1 (length order)) n 0)
    noted n s (inl e) =
        let p : ℕ × ℕ = pair_at pairs i in
        let number : get_or (set numbers p.1 (length order)) n 0 ≡ length order = ap (λ m. get_or (set numbers p.1 (length order)) m 0) e ∙ get_or-set_same numbers p.1 (length order) 0 inside in
        subst (IsPlaceOf (order ++ p ∷ []) n) (sym number) (omega (arith, length_push order p), ap (λ (q : ℕ × ℕ). q.1) (get_or_push order p (0, 0) (length order) refl) ∙ sym e)
    noted n s (inr ne) =
        let p : ℕ × ℕ = pair_at pairs i in
        let number : get_or (set numbers p.1 (length order)) n 0 ≡ get_or numbers n 0 = get_or-set_other numbers p.1 n (length order) 0 ne in
        let w = h.noted n (seen_other seen p.1 n ne s) in
        let lt : get_or numbers n 0 < length order = w.0 in
        subst (IsPlaceOf (order ++ p ∷ []) n) (sym number) (omega (arith, length_push order p), ap (λ (q : ℕ × ℕ). q.1) (get_or_append_left order (p ∷ []) (0, 0) (get_or numbers n 0) lt) ∙ w.1)

pub ranked_same : (pairs : List (ℕ × ℕ)) (i : ℕ) (seen : List Bool) (order : List (ℕ × ℕ)) (numbers : List ℕ) → i < length pairs → get_or seen (pair_at pairs i).1 false ≡ true → AreRanked pairs i seen order numbers → AreRanked pairs (i + 1) seen order numbers
ranked_same pairs i seen order numbers lt here h = record { kept = kept_same pairs i seen order lt here h.kept; noted = h.noted }

pub ranked_all : (pairs : List (ℕ × ℕ)) (i : ℕ) (seen : List Bool) (order : List (ℕ × ℕ)) (numbers : List ℕ) → length pairs ≤ i → AreRanked pairs i seen order numbers → IsNumbering pairs order numbers
ranked_all pairs i seen order numbers le h =
    let once : IsOnce pairs order = kept_all pairs i seen order le h.kept in
    record {
      once = once;
      placed = λ j d lt. (let w = once.all j d lt in let seen_it : IsSeen seen (pair_at order w.0).1 = h.kept.known w.0 (0, 0) w.1 in h.noted (get_or pairs j d).1 (subst (IsSeen seen) w.2 seen_it));
    }

pub numbering_permuted : (pairs sorted order : List (ℕ × ℕ)) (numbers : List ℕ) → IsPermutation pairs sorted → IsNumbering sorted order numbers → IsNumbering pairs order numbers
numbering_permuted pairs sorted order numbers moved h =
    let back : IsPermutation sorted pairs = IsPermutation-sym pairs sorted moved in
    let P : ℕ × ℕ → Type 0 = λ p. (get_or numbers p.1 0 < length order) × ((pair_at order (get_or numbers p.1 0)).1 ≡ p.1) in
    record {
      once = once_permuted pairs sorted order moved h.once;
      placed = All-permutation P sorted pairs back h.placed;
    }
