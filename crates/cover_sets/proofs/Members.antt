-- Members of lists of covers, ascending lists, and the covers that are kept.
use Rattle.std.proofs.Common.{◌≡◌, ℕ, zero, suc, ◌+◌, ◌<◌, ◌≤◌, ◌⊎◌, inl, inr, Bool, true, false, not, ◌&&◌, ◌||◌, cond, List, [], ◌∷◌, ◌++◌, length, get_or, refl, sym, ap, ◌∙◌, subst, arith}
use Rattle.std.specs.List.{Contains, filter, list_all, list_any, sum_by, All}
use Rattle.std.specs.List.Sorted.{IsPermutation, IsSorted}
use Rattle.std.specs.Ordering.{is_lt, match_ordering, ordering_reverse}
use Rattle.std.specs.declared.cmp.Ordering.{Ordering}
use Rattle.std.specs.declared.cmp.Ordering.TheVariants.{Less, Equal, Greater}
use Rattle.std.proofs.lemmas.Bool.{and_parts, and_from, or_cases, both_ways}
use Rattle.std.proofs.lemmas.Cmp.{tied_itself}
use Rattle.std.proofs.lemmas.List.{length_push}
use Rattle.std.proofs.lemmas.List.Sums.{sum_by-cons}
use Rattle.std.proofs.lemmas.List.Elements.{All-cons, All-head, All-tail}
use Rattle.std.proofs.lemmas.List.Sorted.{Contains-permutation, sum_by-IsPermutation, sorted_far, ranks_by}
use Rattle.cover_sets.specs.Bits.{size_of}
use Rattle.cover_sets.specs.Covers.{CoverSets, ascending, cover_cmp, is_minimal, minimal_of, part_of, placed}
use Rattle.cover_sets.specs.Union.{AreBySize, AreDifferent, kept_after, kept_from}
use Rattle.cover_sets.proofs.Parts.{Narrow, cover_cmp_total, part_antisym, part_self, part_trans, part_whole, tied_covers}

abbrev pub IsIn : CoverSets → List CoverSets → Type 0
IsIn c [] = ⊥
IsIn c (x ∷ xs) = (x ≡ c) ⊎ IsIn c xs

pub in_at : (xs : List CoverSets) (k : ℕ) (d : CoverSets) → k < length xs → IsIn (get_or xs k d) xs
in_at [] k d l = absurd (omega arith)
in_at (x ∷ xs) zero d l = inl refl
in_at (x ∷ xs) (suc k) d l = inr (in_at xs k d (omega arith))

pub in_contains : (xs : List CoverSets) (c : CoverSets) → Contains xs c → IsIn c xs
in_contains xs c m = subst (λ x. IsIn x xs) m.2 (in_at xs m.0 c m.1)

pub contains_in : (xs : List CoverSets) (c : CoverSets) → IsIn c xs → Contains xs c
contains_in [] c m = absurd m
contains_in (x ∷ xs) c (inl e) = (0, omega arith, e)
contains_in (x ∷ xs) c (inr m) = let p = contains_in xs c m in (suc p.0, omega (arith, p.1), p.2)

pub in_permuted : (xs ys : List CoverSets) (c : CoverSets) → IsPermutation xs ys → IsIn c xs → IsIn c ys
in_permuted xs ys c p m = in_contains ys c (Contains-permutation xs ys c p (contains_in xs c m))

pub in_left : (xs ys : List CoverSets) (c : CoverSets) → IsIn c xs → IsIn c (xs ++ ys)
in_left [] ys c m = absurd m
in_left (x ∷ xs) ys c (inl e) = inl e
in_left (x ∷ xs) ys c (inr m) = inr (in_left xs ys c m)

pub in_right : (xs ys : List CoverSets) (c : CoverSets) → IsIn c ys → IsIn c (xs ++ ys)
in_right [] ys c m = m
in_right (x ∷ xs) ys c m = inr (in_right xs ys c m)

pub in_either : (xs ys : List CoverSets) (c : CoverSets) → IsIn c (xs ++ ys) → IsIn c xs ⊎ IsIn c ys
in_either [] ys c m = inr m
in_either (x ∷ xs) ys c (inl e) = inl (inl e)
in_either (x ∷ xs) ys c (inr m) = go (in_either xs ys c m)
  where
    go : IsIn c xs ⊎ IsIn c ys → IsIn c (x ∷ xs) ⊎ IsIn c ys
    go (inl n) = inl (inr n)
    go (inr n) = inr n

pub in_all : (P : CoverSets → Type 0) (xs : List CoverSets) (c : CoverSets) → All P xs → IsIn c xs → P c
in_all P [] c h m = absurd m
in_all P (x ∷ xs) c h (inl e) = subst P e (All-head P x xs h)
in_all P (x ∷ xs) c h (inr m) = in_all P xs c (All-tail P x xs h) m

-- ---- filters

pub filter_from : (p : CoverSets → Bool) (xs : List CoverSets) (c : CoverSets) → IsIn c (filter p xs) → IsIn c xs × (p c ≡ true)
filter_from p [] c m = absurd m
filter_from p (x ∷ xs) c m = go (λ n. filter_from p xs c n) (p x) refl m
  where
    go : (IsIn c (filter p xs) → IsIn c xs × (p c ≡ true)) → (b : Bool) → p x ≡ b → IsIn c (cond b (x ∷ filter p xs) (filter p xs))
        → IsIn c (x ∷ xs) × (p c ≡ true)
    go rec true e (inl n) = (inl n, subst (λ y. p y ≡ true) n e)
    go rec true e (inr n) = let r = rec n in (inr r.0, r.1)
    go rec false e n = let r = rec n in (inr r.0, r.1)

pub filter_to : (p : CoverSets → Bool) (xs : List CoverSets) (c : CoverSets) → IsIn c xs → p c ≡ true → IsIn c (filter p xs)
filter_to p [] c m t = absurd m
filter_to p (x ∷ xs) c m t = go (λ n. filter_to p xs c n t) (p x) refl m
  where
    go : (IsIn c xs → IsIn c (filter p xs)) → (b : Bool) → p x ≡ b → IsIn c (x ∷ xs) → IsIn c (cond b (x ∷ filter p xs) (filter p xs))
    go rec true e (inl n) = inl n
    go rec true e (inr n) = inr (rec n)
    go rec false e (inl n) = absurd (both_ways (p c) (subst (λ y. p y ≡ false) n e) t)
    go rec false e (inr n) = rec n

pub all_from : (p : CoverSets → Bool) (xs : List CoverSets) → list_all p xs ≡ true → (c : CoverSets) → IsIn c xs → p c ≡ true
all_from p [] h c m = absurd m
all_from p (x ∷ xs) h c (inl e) = subst (λ y. p y ≡ true) e (and_parts _ _ h).0
all_from p (x ∷ xs) h c (inr m) = all_from p xs (and_parts _ _ h).1 c m

pub all_to : (p : CoverSets → Bool) (xs : List CoverSets) → ((c : CoverSets) → IsIn c xs → p c ≡ true) → list_all p xs ≡ true
all_to p [] h = refl
all_to p (x ∷ xs) h = and_from _ _ (h x (inl refl)) (all_to p xs (λ c m. h c (inr m)))

pub any_from : (p : CoverSets → Bool) (xs : List CoverSets) → list_any p xs ≡ true → (c : CoverSets) × IsIn c xs × (p c ≡ true)
any_from p [] h = absurd cc
any_from p (x ∷ xs) h = go (or_cases _ _ h) (λ k. any_from p xs k)
  where
    go : (p x ≡ true) ⊎ (list_any p xs ≡ true) → (list_any p xs ≡ true → (c : CoverSets) × IsIn c xs × (p c ≡ true)) → (c : CoverSets) × IsIn c (x ∷ xs) × (p c ≡ true)
    go (inl e) rec = (x, inl refl, e)
    go (inr k) rec = let r = rec k in (r.0, inr r.1, r.2)

pub any_none : (p : CoverSets → Bool) (xs : List CoverSets) → list_any p xs ≡ false → (c : CoverSets) → IsIn c xs → p c ≡ false
any_none p [] h c m = absurd m
any_none p (x ∷ xs) h c m = go (λ k n. any_none p xs k c n) (p x) refl m h
  where
    go : (list_any p xs ≡ false → IsIn c xs → p c ≡ false) → (b : Bool) → p x ≡ b → IsIn c (x ∷ xs) → (b || list_any p xs) ≡ false → p c ≡ false
    go rec true e n k = absurd (both_ways true k refl)
    go rec false e (inl n) k = subst (λ y. p y ≡ false) n e
    go rec false e (inr n) k = rec k n

-- ---- strictly ascending lists

abbrev pub IsAscending : List CoverSets → Type 0
IsAscending [] = Unit {0}
IsAscending (c ∷ cs) = ((d : CoverSets) → IsIn d cs → cover_cmp c d ≡ Less) × IsAscending cs

back : (a b : CoverSets) (o : Ordering) → cover_cmp a b ≡ o → cover_cmp b a ≡ ordering_reverse o
back a b o h = cover_cmp_total.antisymm b a ∙ ap ordering_reverse h

not_both : (a b : CoverSets) → cover_cmp a b ≡ Less → cover_cmp b a ≡ Less → ⊥
not_both a b h k = let e : Greater ≡ Less = sym (back a b Less h) ∙ k in absurd cc

not_self : (a b : CoverSets) → a ≡ b → cover_cmp a b ≡ Less → ⊥
not_self a b e h = let k : cover_cmp a b ≡ Equal = subst (λ x. cover_cmp a x ≡ Equal) e (tied_itself cover_cmp_total a) in absurd cc

-- two ascending lists with the same members are one
pub same_ascending : (xs ys : List CoverSets) → IsAscending xs → IsAscending ys
    → ((c : CoverSets) → IsIn c xs → IsIn c ys) → ((c : CoverSets) → IsIn c ys → IsIn c xs) → xs ≡ ys
same_ascending [] [] a b f g = refl
same_ascending [] (y ∷ ys) a b f g = absurd (g y (inl refl))
same_ascending (x ∷ xs) [] a b f g = absurd (f x (inl refl))
same_ascending (x ∷ xs) (y ∷ ys) a b f g = rest (heads (f x (inl refl)) (g y (inl refl))) (λ h k. same_ascending xs ys a.1 b.1 h k)
  where
    heads : IsIn x (y ∷ ys) → IsIn y (x ∷ xs) → x ≡ y
    heads (inl e) n = sym e
    heads (inr m) (inl e) = e
    heads (inr m) (inr n) = absurd (not_both x y (a.0 y n) (b.0 x m))

    there : x ≡ y → (c : CoverSets) → IsIn c xs → IsIn c (y ∷ ys) → IsIn c ys
    there e c m (inl n) = absurd (not_self x c (e ∙ n) (a.0 c m))
    there e c m (inr n) = n

    here : x ≡ y → (c : CoverSets) → IsIn c ys → IsIn c (x ∷ xs) → IsIn c xs
    here e c m (inl n) = absurd (not_self y c (sym e ∙ n) (b.0 c m))
    here e c m (inr n) = n

    rest : x ≡ y → (((c : CoverSets) → IsIn c xs → IsIn c ys) → ((c : CoverSets) → IsIn c ys → IsIn c xs) → xs ≡ ys) → x ∷ xs ≡ y ∷ ys
    rest e rec =
        let t : xs ≡ ys = rec (λ c m. there e c m (f c (inr m))) (λ c m. here e c m (g c (inr m))) in
        ap (λ z. z ∷ xs) e ∙ ap (λ zs. y ∷ zs) t

-- a cover is put in its place
pub in_placed : (c : CoverSets) (ds : List CoverSets) → Narrow c → All Narrow ds → (e : CoverSets) → IsIn e (c ∷ ds) → IsIn e (placed c ds)
in_placed c [] n ns e m = m
in_placed c (d ∷ ds) n ns e m = go (λ k. in_placed c ds n (All-tail Narrow d ds ns) e k) (cover_cmp c d) refl m
  where
    go : (IsIn e (c ∷ ds) → IsIn e (placed c ds)) → (o : Ordering) → cover_cmp c d ≡ o → IsIn e (c ∷ d ∷ ds)
        → IsIn e (match_ordering o (c ∷ d ∷ ds) (d ∷ ds) (d ∷ placed c ds))
    go rec Less h k = k
    go rec Equal h (inl k) = inl (sym (tied_covers c d n (All-head Narrow d ds ns) h) ∙ k)
    go rec Equal h (inr k) = k
    go rec Greater h (inl k) = inr (rec (inl k))
    go rec Greater h (inr (inl k)) = inl k
    go rec Greater h (inr (inr k)) = inr (rec (inr k))

pub placed_in : (c : CoverSets) (ds : List CoverSets) (e : CoverSets) → IsIn e (placed c ds) → IsIn e (c ∷ ds)
placed_in c [] e m = m
placed_in c (d ∷ ds) e m = go (λ k. placed_in c ds e k) (cover_cmp c d) refl m
  where
    deeper : IsIn e (c ∷ ds) → IsIn e (c ∷ d ∷ ds)
    deeper (inl k) = inl k
    deeper (inr k) = inr (inr k)

    go : (IsIn e (placed c ds) → IsIn e (c ∷ ds)) → (o : Ordering) → cover_cmp c d ≡ o
        → IsIn e (match_ordering o (c ∷ d ∷ ds) (d ∷ ds) (d ∷ placed c ds)) → IsIn e (c ∷ d ∷ ds)
    go rec Less h k = k
    go rec Equal h k = inr k
    go rec Greater h (inl k) = inr (inl k)
    go rec Greater h (inr k) = deeper (rec k)

pub placed_ascends : (c : CoverSets) (ds : List CoverSets) → IsAscending ds → IsAscending (placed c ds)
placed_ascends c [] a = (λ d m. absurd m, tt)
placed_ascends c (d ∷ ds) a = go (placed_ascends c ds a.1) (cover_cmp c d) refl
  where
    before : cover_cmp c d ≡ Less → (e : CoverSets) → IsIn e (d ∷ ds) → cover_cmp c e ≡ Less
    before h e (inl k) = subst (λ x. cover_cmp c x ≡ Less) k h
    before h e (inr k) = cover_cmp_total.trans c d e h (a.0 e k)

    behind : cover_cmp c d ≡ Greater → (e : CoverSets) → IsIn e (c ∷ ds) → cover_cmp d e ≡ Less
    behind h e (inl k) = subst (λ x. cover_cmp d x ≡ Less) k (back c d Greater h)
    behind h e (inr k) = a.0 e k

    go : IsAscending (placed c ds) → (o : Ordering) → cover_cmp c d ≡ o → IsAscending (match_ordering o (c ∷ d ∷ ds) (d ∷ ds) (d ∷ placed c ds))
    go rec Less h = (before h, a)
    go rec Equal h = a
    go rec Greater h = (λ e m. behind h e (placed_in c ds e m), rec)

pub placed_length : (c : CoverSets) (ds : List CoverSets) → Narrow c → All Narrow ds → (IsIn c ds → ⊥) → length (placed c ds) ≡ suc (length ds)
placed_length c [] n ns f = refl
placed_length c (d ∷ ds) n ns f = go (placed_length c ds n (All-tail Narrow d ds ns) (λ m. f (inr m))) (cover_cmp c d) refl
  where
    go : length (placed c ds) ≡ suc (length ds) → (o : Ordering) → cover_cmp c d ≡ o
        → length (match_ordering o (c ∷ d ∷ ds) (d ∷ ds) (d ∷ placed c ds)) ≡ suc (suc (length ds))
    go rec Less h = refl
    go rec Equal h = absurd (f (inl (sym (tied_covers c d n (All-head Narrow d ds ns) h))))
    go rec Greater h = ap suc rec

pub ascending_ascends : (cs : List CoverSets) → IsAscending (ascending cs)
ascending_ascends [] = tt
ascending_ascends (c ∷ cs) = placed_ascends c (ascending cs) (ascending_ascends cs)

pub ascending_in : (cs : List CoverSets) (e : CoverSets) → IsIn e (ascending cs) → IsIn e cs
ascending_in [] e m = m
ascending_in (c ∷ cs) e m = go (placed_in c (ascending cs) e m) (λ k. ascending_in cs e k)
  where
    go : IsIn e (c ∷ ascending cs) → (IsIn e (ascending cs) → IsIn e cs) → IsIn e (c ∷ cs)
    go (inl k) rec = inl k
    go (inr k) rec = inr (rec k)

pub all_in : (P : CoverSets → Type 0) (xs : List CoverSets) → ((c : CoverSets) → IsIn c xs → P c) → All P xs
all_in P [] h = λ k d l. absurd (omega arith)
all_in P (x ∷ xs) h = All-cons P x xs (h x (inl refl)) (all_in P xs (λ c m. h c (inr m)))

pub narrow_ascending : (cs : List CoverSets) → All Narrow cs → All Narrow (ascending cs)
narrow_ascending cs n = all_in Narrow (ascending cs) (λ c m. in_all Narrow cs c n (ascending_in cs c m))

pub in_ascending : (cs : List CoverSets) → All Narrow cs → (e : CoverSets) → IsIn e cs → IsIn e (ascending cs)
in_ascending [] n e m = m
in_ascending (c ∷ cs) n e m = in_placed c (ascending cs) (All-head Narrow c cs n) (narrow_ascending cs (All-tail Narrow c cs n)) e (go m (λ k. in_ascending cs (All-tail Narrow c cs n) e k))
  where
    go : IsIn e (c ∷ cs) → (IsIn e cs → IsIn e (ascending cs)) → IsIn e (c ∷ ascending cs)
    go (inl k) rec = inl k
    go (inr k) rec = inr (rec k)

-- ---- each cover once

abbrev pub AreApart : List CoverSets → Type 0
AreApart [] = Unit {0}
AreApart (c ∷ cs) = (IsIn c cs → ⊥) × AreApart cs

pub apart_different : (cs : List CoverSets) → AreApart cs → AreDifferent cs
apart_different [] a = tt
apart_different (c ∷ cs) a = (λ m. a.0 (in_contains cs c m), apart_different cs a.1)

pub different_apart : (cs : List CoverSets) → AreDifferent cs → AreApart cs
different_apart [] a = tt
different_apart (c ∷ cs) a = (λ m. a.0 (contains_in cs c m), different_apart cs a.1)

pub ascending_length : (cs : List CoverSets) → All Narrow cs → AreApart cs → length (ascending cs) ≡ length cs
ascending_length [] n a = refl
ascending_length (c ∷ cs) n a =
    placed_length c (ascending cs) (All-head Narrow c cs n) (narrow_ascending cs (All-tail Narrow c cs n)) (λ m. a.0 (ascending_in cs c m))
    ∙ ap suc (ascending_length cs (All-tail Narrow c cs n) a.1)

pub apart_push : (cs : List CoverSets) (c : CoverSets) → AreApart cs → (IsIn c cs → ⊥) → AreApart (cs ++ c ∷ [])
apart_push [] c a f = (λ m. m, tt)
apart_push (d ∷ ds) c a f = (λ m. go (in_either ds (c ∷ []) d m), apart_push ds c a.1 (λ m. f (inr m)))
  where
    go : IsIn d ds ⊎ IsIn d (c ∷ []) → ⊥
    go (inl m) = a.0 m
    go (inr (inl e)) = f (inl (sym e))
    go (inr (inr m)) = m

abbrev same : CoverSets → CoverSets → Bool
same a b = part_of a b && part_of b a

abbrev times_in : CoverSets → List CoverSets → ℕ
times_in c cs = sum_by (λ d. cond (same c d) 1 0) cs

same_self : (c : CoverSets) → same c c ≡ true
same_self c = and_from _ _ (part_self c) (part_self c)

same_is : (c d : CoverSets) → same c d ≡ true → c ≡ d
same_is c d h = let p = and_parts _ _ h in part_antisym c d p.0 p.1

times_cons : (c d : CoverSets) (ds : List CoverSets) → times_in c (d ∷ ds) ≡ cond (same c d) 1 0 + times_in c ds
times_cons c d ds = sum_by-cons (λ d. cond (same c d) 1 0) d ds

times_here : (c d : CoverSets) (ds : List CoverSets) → same c d ≡ true → times_in c (d ∷ ds) ≡ 1 + times_in c ds
times_here c d ds h = times_cons c d ds ∙ ap (λ b. cond b 1 0 + times_in c ds) h

times_other : (c d : CoverSets) (ds : List CoverSets) → same c d ≡ false → times_in c (d ∷ ds) ≡ times_in c ds
times_other c d ds h = times_cons c d ds ∙ ap (λ b. cond b 1 0 + times_in c ds) h ∙ omega arith

absent_none : (c : CoverSets) (cs : List CoverSets) → (IsIn c cs → ⊥) → times_in c cs ≡ 0
absent_none c [] f = refl
absent_none c (d ∷ ds) f = go (same c d) refl (absent_none c ds (λ m. f (inr m)))
  where
    go : (b : Bool) → same c d ≡ b → times_in c ds ≡ 0 → times_in c (d ∷ ds) ≡ 0
    go true e rec = absurd (f (inl (sym (same_is c d e))))
    go false e rec = times_other c d ds e ∙ rec

at_most_one : (n m : ℕ) → n ≡ 1 + m → m ≡ 0 → n ≤ 1
at_most_one n m h k = omega arith

once_each : (c : CoverSets) (cs : List CoverSets) → AreApart cs → times_in c cs ≤ 1
once_each c [] a = omega arith
once_each c (d ∷ ds) a = go (same c d) refl (once_each c ds a.1)
  where
    go : (b : Bool) → same c d ≡ b → times_in c ds ≤ 1 → times_in c (d ∷ ds) ≤ 1
    go true e rec = at_most_one _ _ (times_here c d ds e) (absent_none c ds (λ m. a.0 (subst (λ x. IsIn x ds) (same_is c d e) m)))
    go false e rec = subst (λ n. n ≤ 1) (sym (times_other c d ds e)) rec

at_least_one : (n m : ℕ) → n ≡ 1 + m → 1 ≤ n
at_least_one n m h = omega arith

add_le : (n b m : ℕ) → n ≡ b + m → 1 ≤ m → 1 ≤ n
add_le n b m h k = omega arith

present_some : (c : CoverSets) (cs : List CoverSets) → IsIn c cs → 1 ≤ times_in c cs
present_some c [] m = absurd m
present_some c (d ∷ ds) (inl e) = at_least_one _ _ (times_here c d ds (subst (λ x. same c x ≡ true) (sym e) (same_self c)))
present_some c (d ∷ ds) (inr m) = add_le _ _ _ (times_cons c d ds) (present_some c ds m)

too_many : (n m : ℕ) → n ≡ 1 + m → 1 ≤ m → n ≤ 1 → ⊥
too_many n m h k l = omega arith

rest_few : (n b m : ℕ) → n ≡ b + m → n ≤ 1 → m ≤ 1
rest_few n b m h k = omega arith

apart_from_once : (cs : List CoverSets) → ((c : CoverSets) → times_in c cs ≤ 1) → AreApart cs
apart_from_once [] h = tt
apart_from_once (d ∷ ds) h = (
  λ m. too_many _ _ (times_here d d ds (same_self d)) (present_some d ds m) (h d),
  apart_from_once ds (λ c. rest_few _ _ _ (times_cons c d ds) (h c)),
)

same_few : (n m : ℕ) → n ≡ m → m ≤ 1 → n ≤ 1
same_few n m h k = omega arith

pub apart_permuted : (xs ys : List CoverSets) → IsPermutation xs ys → AreApart xs → AreApart ys
apart_permuted xs ys p a = apart_from_once ys (λ c. same_few _ _ (sum_by-IsPermutation (λ d. cond (same c d) 1 0) xs ys p) (once_each c xs a))

-- a sorted list of different covers ascends
one_on : (k : ℕ) → suc k + 1 ≡ suc (k + 1)
one_on k = omega arith

pub sorted_ascends : (cs : List CoverSets) → All Narrow cs → AreApart cs → IsSorted cover_cmp cs → IsAscending cs
sorted_ascends [] n a s = tt
sorted_ascends (c ∷ cs) n a s = (
  λ d m.
      let p = contains_in cs d m in
      let far : is_lt (cover_cmp (get_or cs p.0 d) c) ≡ false = sorted_far (λ x y. is_lt (cover_cmp x y)) (ranks_by cover_cmp_total (λ x. x)) (c ∷ cs) s 0 (suc p.0) d (omega arith) (omega (arith, p.1)) in
      let less : is_lt (cover_cmp d c) ≡ false = subst (λ x. is_lt (cover_cmp x c) ≡ false) p.2 far in
      go d m (cover_cmp c d) refl less,
  sorted_ascends cs (All-tail Narrow c cs n) a.1 (λ k d l h. subst (λ j. is_lt (cover_cmp (get_or (c ∷ cs) j d) (get_or cs k d)) ≡ false) (one_on k) (s (suc k) d (omega arith) (omega arith))),
)
  where
    go : (d : CoverSets) → IsIn d cs → (o : Ordering) → cover_cmp c d ≡ o → is_lt (cover_cmp d c) ≡ false → cover_cmp c d ≡ Less
    go d m Less h k = h
    go d m Equal h k = absurd (a.0 (subst (λ x. IsIn x cs) (sym (tied_covers c d (All-head Narrow c cs n) (in_all Narrow cs d (All-tail Narrow c cs n) m) h)) m))
    go d m Greater h k = let e : is_lt (cover_cmp d c) ≡ true = ap is_lt (back c d Greater h) in absurd (both_ways _ k e)

-- ---- the covers that are kept

pub record Keeps (P : CoverSets → Type 0) (kept : List CoverSets) : Type 0 where
  pub from : (c : CoverSets) → IsIn c kept → P c
  pub all : (c : CoverSets) → P c → (k : CoverSets) × IsIn k kept × (part_of k c ≡ true)
  pub least : (c k : CoverSets) → IsIn c kept → IsIn k kept → part_of k c ≡ true → k ≡ c
  pub once : AreApart kept

abbrev pub BySize : List CoverSets → Type 0
BySize [] = Unit {0}
BySize (c ∷ cs) = ((d : CoverSets) → IsIn d cs → size_of c ≤ size_of d) × BySize cs

pub by_size : (cs : List CoverSets) → AreBySize cs → BySize cs
by_size [] h = tt
by_size (c ∷ cs) h = (
  λ d m.
      let p = contains_in cs d m in
      let q : size_of c ≤ size_of (get_or cs p.0 d) = h 0 (suc p.0) d (omega arith) (omega (arith, p.1)) in
      subst (λ x. size_of c ≤ size_of x) p.2 q,
  by_size cs (λ i j d l k. h (suc i) (suc j) d (omega arith) (omega arith)),
)

keeps_one : (P : CoverSets → Type 0) (kept : List CoverSets) (c : CoverSets) → Keeps P kept → ((k : CoverSets) → IsIn k kept → size_of k ≤ size_of c)
    → Keeps (λ d. P d ⊎ (c ≡ d)) (kept_after kept c)
keeps_one P kept c keeps small = go (list_any (λ k. part_of k c) kept) refl
  where
    was_covered : (k : CoverSets) × IsIn k kept × (part_of k c ≡ true) → (d : CoverSets) → P d ⊎ (c ≡ d) → (k : CoverSets) × IsIn k kept × (part_of k d ≡ true)
    was_covered w d (inl p) = keeps.all d p
    was_covered w d (inr e) = (w.0, w.1, subst (λ x. part_of w.0 x ≡ true) e w.2)

    dropped : (k : CoverSets) × IsIn k kept × (part_of k c ≡ true) → Keeps (λ d. P d ⊎ (c ≡ d)) kept
    dropped w = record {
      from = λ d m. inl (keeps.from d m);
      all = was_covered w;
      least = keeps.least;
      once = keeps.once;
    }

    free : list_any (λ k. part_of k c) kept ≡ false → (k : CoverSets) → IsIn k kept → part_of k c ≡ false
    free none k m = any_none (λ k. part_of k c) kept none k m

    absent : list_any (λ k. part_of k c) kept ≡ false → IsIn c kept → ⊥
    absent none m = both_ways (part_of c c) (free none c m) (part_self c)

    members : (d : CoverSets) → IsIn d kept ⊎ IsIn d (c ∷ []) → P d ⊎ (c ≡ d)
    members d (inl m) = inl (keeps.from d m)
    members d (inr (inl e)) = inr e
    members d (inr (inr m)) = absurd m

    covered : (d : CoverSets) → P d ⊎ (c ≡ d) → (k : CoverSets) × IsIn k (kept ++ c ∷ []) × (part_of k d ≡ true)
    covered d (inl p) = let w = keeps.all d p in (w.0, in_left kept (c ∷ []) w.0 w.1, w.2)
    covered d (inr e) = (c, in_right kept (c ∷ []) c (inl refl), subst (λ x. part_of c x ≡ true) e (part_self c))

    least : list_any (λ k. part_of k c) kept ≡ false → (d k : CoverSets) → IsIn d kept ⊎ IsIn d (c ∷ []) → IsIn k kept ⊎ IsIn k (c ∷ []) → part_of k d ≡ true → k ≡ d
    least none d k (inl m) (inl n) h = keeps.least d k m n h
    least none d k (inl m) (inr (inl e)) h =
        -- a new cover that is part of an old one is no smaller
        let i : part_of c d ≡ true = subst (λ x. part_of x d ≡ true) (sym e) h in
        sym e ∙ part_whole c d i (small d m)
    least none d k (inl m) (inr (inr n)) h = absurd n
    least none d k (inr (inl e)) (inl n) h = absurd (both_ways (part_of k c) (free none k n) (subst (λ x. part_of k x ≡ true) (sym e) h))
    least none d k (inr (inl e)) (inr (inl f)) h = sym f ∙ e
    least none d k (inr (inl e)) (inr (inr n)) h = absurd n
    least none d k (inr (inr m)) n h = absurd m

    go : (b : Bool) → list_any (λ k. part_of k c) kept ≡ b → Keeps (λ d. P d ⊎ (c ≡ d)) (cond b kept (kept ++ c ∷ []))
    go true some = dropped (any_from (λ k. part_of k c) kept some)
    go false none = record {
      from = λ d m. members d (in_either kept (c ∷ []) d m);
      all = covered;
      least = λ d k m n h. least none d k (in_either kept (c ∷ []) d m) (in_either kept (c ∷ []) k n) h;
      once = apart_push kept c keeps.once (absent none);
    }

kept_small : (kept : List CoverSets) (c d : CoverSets) (cs : List CoverSets) → ((k : CoverSets) → IsIn k kept → size_of k ≤ size_of d) → size_of c ≤ size_of d
    → (k : CoverSets) → IsIn k (kept_after kept c) → size_of k ≤ size_of d
kept_small kept c d cs h l k m = go (list_any (λ k. part_of k c) kept) m
  where
    old : IsIn k kept ⊎ IsIn k (c ∷ []) → size_of k ≤ size_of d
    old (inl n) = h k n
    old (inr (inl e)) = subst (λ x. size_of x ≤ size_of d) e l
    old (inr (inr n)) = absurd n

    go : (b : Bool) → IsIn k (cond b kept (kept ++ c ∷ [])) → size_of k ≤ size_of d
    go true n = h k n
    go false n = old (in_either kept (c ∷ []) k n)

pub keeps_more : (P : CoverSets → Type 0) (kept cs : List CoverSets) → Keeps P kept → BySize cs
    → ((k d : CoverSets) → IsIn k kept → IsIn d cs → size_of k ≤ size_of d) → Keeps (λ d. P d ⊎ IsIn d cs) (kept_from kept cs)
unfolding kept_from
keeps_more P kept [] keeps s h = record {
  from = λ c m. inl (keeps.from c m);
  all = covered;
  least = keeps.least;
  once = keeps.once;
}
  where
    covered : (c : CoverSets) → P c ⊎ ⊥ → (k : CoverSets) × IsIn k kept × (part_of k c ≡ true)
    covered c (inl p) = keeps.all c p
    covered c (inr n) = absurd n
keeps_more P kept (c ∷ cs) keeps s h =
    turned (kept_from (kept_after kept c) cs)
    (keeps_more (λ d. P d ⊎ (c ≡ d)) (kept_after kept c) cs (keeps_one P kept c keeps (λ k m. h k c m (inl refl))) s.1
    (λ k d m n. kept_small kept c d cs (λ k m. h k d m (inr n)) (s.0 d n) k m))
  where
    to : (d : CoverSets) → (P d ⊎ (c ≡ d)) ⊎ IsIn d cs → P d ⊎ IsIn d (c ∷ cs)
    to d (inl (inl p)) = inl p
    to d (inl (inr e)) = inr (inl e)
    to d (inr n) = inr (inr n)

    back_to : (d : CoverSets) → P d ⊎ IsIn d (c ∷ cs) → (P d ⊎ (c ≡ d)) ⊎ IsIn d cs
    back_to d (inl p) = inl (inl p)
    back_to d (inr (inl e)) = inl (inr e)
    back_to d (inr (inr n)) = inr n

    turned : (end : List CoverSets) → Keeps (λ d. (P d ⊎ (c ≡ d)) ⊎ IsIn d cs) end → Keeps (λ d. P d ⊎ IsIn d (c ∷ cs)) end
    turned end k = record { from = λ d m. to d (k.from d m); all = λ d p. k.all d (back_to d p); least = k.least; once = k.once }

kept_longer : (kept : List CoverSets) (c : CoverSets) → length kept ≤ length (kept_after kept c)
kept_longer kept c = go (list_any (λ k. part_of k c) kept)
  where
    go : (b : Bool) → length kept ≤ length (cond b kept (kept ++ c ∷ []))
    go true = omega arith
    go false = let e = length_push kept c in omega arith

pub kept_grows : (kept cs : List CoverSets) → length kept ≤ length (kept_from kept cs)
unfolding kept_from
kept_grows kept [] = omega arith
kept_grows kept (c ∷ cs) = let h = kept_longer kept c in let k = kept_grows (kept_after kept c) cs in omega arith

-- ---- the reduced list

-- what is kept are the minimal ones
pub kept_minimal : (cs ps : List CoverSets) → ((c : CoverSets) → IsIn c cs → IsIn c ps) → ((c : CoverSets) → IsIn c ps → IsIn c cs) → (kept : List CoverSets)
    → Keeps (λ d. ⊥ ⊎ IsIn d cs) kept → (c : CoverSets) → (IsIn c kept → IsIn c (filter (is_minimal ps) ps)) × (IsIn c (filter (is_minimal ps) ps) → IsIn c kept)
kept_minimal cs ps f g kept keeps c = (
  λ m. filter_to (is_minimal ps) ps c (f c (only_in c (keeps.from c m))) (all_to _ ps (λ d n. whole m d n (part_of d c) refl)),
  λ m. let p = filter_from (is_minimal ps) ps c m in let w = keeps.all c (inr (g c p.0)) in
      subst (λ x. IsIn x kept) (part_antisym w.0 c w.2 (up (part_of w.0 c) w.2 (all_from _ ps p.1 w.0 (f w.0 (only_in w.0 (keeps.from w.0 w.1)))))) w.1,
)
  where
    only_in : (d : CoverSets) → ⊥ ⊎ IsIn d cs → IsIn d cs
    only_in d (inl n) = absurd n
    only_in d (inr n) = n

    up : (b : Bool) {q : Bool} → b ≡ true → (not b || q) ≡ true → q ≡ true
    up true h k = k
    up false h k = absurd (both_ways false refl h)

    whole : IsIn c kept → (d : CoverSets) → IsIn d ps → (b : Bool) → part_of d c ≡ b → (not b || part_of c d) ≡ true
    whole m d n false e = refl
    whole m d n true e =
        let w = keeps.all d (inr (g d n)) in
        let s : w.0 ≡ c = keeps.least c w.0 m w.1 (part_trans w.0 d c w.2 e) in
        subst (λ x. part_of x d ≡ true) s w.2

pub kept_reduced : (cs ps kept list : List CoverSets) → ((c : CoverSets) → IsIn c cs → IsIn c ps) → ((c : CoverSets) → IsIn c ps → IsIn c cs) → All Narrow ps
    → Keeps (λ d. ⊥ ⊎ IsIn d cs) kept → IsAscending list → ((c : CoverSets) → IsIn c kept → IsIn c list) → ((c : CoverSets) → IsIn c list → IsIn c kept)
    → minimal_of ps ≡ list
kept_reduced cs ps kept list f g n keeps a to from =
    let few : All Narrow (filter (is_minimal ps) ps) = all_in Narrow _ (λ c m. in_all Narrow ps c n (filter_from (is_minimal ps) ps c m).0) in
    same_ascending (minimal_of ps) list (ascending_ascends (filter (is_minimal ps) ps)) a
    (λ c m. to c ((kept_minimal cs ps f g kept keeps c).1 (ascending_in (filter (is_minimal ps) ps) c m)))
    (λ c m. in_ascending (filter (is_minimal ps) ps) few c ((kept_minimal cs ps f g kept keeps c).0 (from c m)))
