-- A reduced list by its members.
use Rattle.std.proofs.Common.{◌≡◌, ℕ, zero, suc, ◌+◌, ◌<◌, Bool, true, false, not, ◌&&◌, ◌||◌, nat_lt, inl, inr, List, [], ◌∷◌, length, get_or, refl, sym, subst, arith}
use Rattle.std.specs.List.{All, filter, list_all}
use Rattle.std.specs.declared.cmp.Ordering.TheVariants.{Less}
use Rattle.std.proofs.lemmas.Bool.{both_ways, ltb-true, ltb-false}
use Rattle.std.proofs.lemmas.List.Elements.{All-filter}
use Rattle.cover_sets.specs.Covers.{CoverSets, consistent, cover_cmp, is_minimal, part_of, reduced}
use Rattle.cover_sets.specs.Bits.{size_of}
use Rattle.cover_sets.specs.Reduced.{IsReduced, Narrow, ReducedIsExact}
use Rattle.cover_sets.specs.Union.{all_consistent}
use Rattle.cover_sets.proofs.Members.{IsAscending, IsIn, all_from, all_to, ascending_ascends, ascending_in, contains_in, filter_from, filter_to, in_ascending, in_contains, same_ascending}
use Rattle.cover_sets.proofs.Parts.{cover_cmp_total, part_antisym, part_self, part_trans, part_whole}

up : (b : Bool) (q : Bool) → b ≡ true → (not b || q) ≡ true → q ≡ true
up true q h k = k
up false q h k = absurd (both_ways false refl h)

minimal_says : (ps : List CoverSets) (c d : CoverSets) → is_minimal ps c ≡ true → IsIn d ps → part_of d c ≡ true → d ≡ c
minimal_says ps c d h m p = part_antisym d c p (up (part_of d c) (part_of c d) p (all_from (λ d. not (part_of d c) || part_of c d) ps h d m))

to_minimal : (ps : List CoverSets) (c : CoverSets) → ((d : CoverSets) → IsIn d ps → part_of d c ≡ true → d ≡ c) → is_minimal ps c ≡ true
to_minimal ps c h = all_to (λ d. not (part_of d c) || part_of c d) ps (λ d m. go d m (part_of d c) refl)
  where
    go : (d : CoverSets) → IsIn d ps → (b : Bool) → part_of d c ≡ b → (not b || part_of c d) ≡ true
    go d m true e = subst (λ x. part_of c x ≡ true) (sym (h d m e)) (part_self c)
    go d m false e = refl

-- ---- each cover contains a minimal one

smaller : (c d : CoverSets) → part_of d c ≡ true → (d ≡ c → ⊥) → size_of d < size_of c
smaller c d p ne = go (nat_lt (size_of d) (size_of c)) refl
  where
    go : (b : Bool) → nat_lt (size_of d) (size_of c) ≡ b → size_of d < size_of c
    go true e = ltb-true (size_of d) (size_of c) e
    go false e = absurd (ne (part_whole d c p (ltb-false (size_of d) (size_of c) e)))

not_minimal : (qs : List CoverSets) (c : CoverSets) → list_all (λ d. not (part_of d c) || part_of c d) qs ≡ false → (d : CoverSets) × IsIn d qs × (part_of d c ≡ true) × (part_of c d ≡ false)
not_minimal [] c h = absurd cc
not_minimal (q ∷ qs) c h = go (part_of q c) (part_of c q) refl refl h (λ k. not_minimal qs c k)
  where
    go : (a b : Bool) → part_of q c ≡ a → part_of c q ≡ b → ((not a || b) && list_all (λ d. not (part_of d c) || part_of c d) qs) ≡ false
        → (list_all (λ d. not (part_of d c) || part_of c d) qs ≡ false → (d : CoverSets) × IsIn d qs × (part_of d c ≡ true) × (part_of c d ≡ false))
        → (d : CoverSets) × IsIn d (q ∷ qs) × (part_of d c ≡ true) × (part_of c d ≡ false)
    go true false e f k rec = (q, inl refl, e, f)
    go true true e f k rec = let r = rec k in (r.0, inr r.1, r.2, r.3)
    go false b e f k rec = let r = rec k in (r.0, inr r.1, r.2, r.3)

pub below_minimal : (n : ℕ) (ps : List CoverSets) (c : CoverSets) → IsIn c ps → size_of c < n → (d : CoverSets) × IsIn d (filter (is_minimal ps) ps) × (part_of d c ≡ true)
below_minimal zero ps c m l = absurd (omega arith)
below_minimal (suc n) ps c m l = go (is_minimal ps c) refl (λ d k s. below_minimal n ps d k s)
  where
    go : (b : Bool) → is_minimal ps c ≡ b → ((d : CoverSets) → IsIn d ps → size_of d < n → (e : CoverSets) × IsIn e (filter (is_minimal ps) ps) × (part_of e d ≡ true))
        → (d : CoverSets) × IsIn d (filter (is_minimal ps) ps) × (part_of d c ≡ true)
    go true e rec = (c, filter_to (is_minimal ps) ps c m e, part_self c)
    go false e rec =
        let w = not_minimal ps c e in
        let s : size_of w.0 < size_of c = smaller c w.0 w.2 (λ (i : w.0 ≡ c). both_ways (part_of c w.0) w.3 (subst (λ x. part_of c x ≡ true) (sym i) (part_self c))) in
        let r = rec w.0 w.1 (omega arith) in
        (r.0, r.1, part_trans r.0 w.0 c r.2 w.2)

-- ---- the reduced list

pub reduced_in : (pairs : List (ℕ × ℕ)) (raw : List CoverSets) (c : CoverSets) → IsIn c (reduced pairs raw)
    → IsIn c raw × (consistent pairs c.literals ≡ true) × (is_minimal (all_consistent pairs raw) c ≡ true)
unfolding reduced
reduced_in pairs raw c m =
    let p = filter_from (is_minimal (all_consistent pairs raw)) (all_consistent pairs raw) c (ascending_in (filter (is_minimal (all_consistent pairs raw)) (all_consistent pairs raw)) c m) in
    let q = filter_from (λ c. consistent pairs c.literals) raw c p.0 in
    (q.0, q.1, p.1)

few : (pairs : List (ℕ × ℕ)) (raw : List CoverSets) → All Narrow raw → All Narrow (filter (is_minimal (all_consistent pairs raw)) (all_consistent pairs raw))
few pairs raw n = All-filter (is_minimal (all_consistent pairs raw)) Narrow (all_consistent pairs raw) (All-filter (λ c. consistent pairs c.literals) Narrow raw n)

in_reduced : (pairs : List (ℕ × ℕ)) (raw : List CoverSets) (c : CoverSets) → All Narrow raw → IsIn c raw → consistent pairs c.literals ≡ true → is_minimal (all_consistent pairs raw) c ≡ true
    → IsIn c (reduced pairs raw)
unfolding reduced
in_reduced pairs raw c n m h k =
    in_ascending (filter (is_minimal (all_consistent pairs raw)) (all_consistent pairs raw)) (few pairs raw n) c
    (filter_to (is_minimal (all_consistent pairs raw)) (all_consistent pairs raw) c (filter_to (λ c. consistent pairs c.literals) raw c m h) k)

reduced_ascends : (pairs : List (ℕ × ℕ)) (raw : List CoverSets) → IsAscending (reduced pairs raw)
unfolding reduced
reduced_ascends pairs raw = ascending_ascends (filter (is_minimal (all_consistent pairs raw)) (all_consistent pairs raw))

-- each consistent cover has one of the reduced list inside it
pub reduced_within : (pairs : List (ℕ × ℕ)) (raw : List CoverSets) (c : CoverSets) → All Narrow raw → IsIn c raw → consistent pairs c.literals ≡ true
    → (d : CoverSets) × IsIn d (reduced pairs raw) × (part_of d c ≡ true)
unfolding reduced
reduced_within pairs raw c n m h =
    let w = below_minimal (suc (size_of c)) (all_consistent pairs raw) c (filter_to (λ c. consistent pairs c.literals) raw c m h) (omega arith) in
    (w.0, in_ascending (filter (is_minimal (all_consistent pairs raw)) (all_consistent pairs raw)) (few pairs raw n) w.0 w.1, w.2)

next_ascends : (list : List CoverSets) → IsAscending list → (k : ℕ) (d : CoverSets) → k + 1 < length list → cover_cmp (get_or list k d) (get_or list (k + 1) d) ≡ Less
next_ascends [] a k d l = absurd (omega arith)
next_ascends (c ∷ []) a k d l = absurd (omega arith)
next_ascends (c ∷ e ∷ es) a zero d l = a.0 e (inl refl)
next_ascends (c ∷ e ∷ es) a (suc k) d l =
    let i : suc k + 1 ≡ suc (k + 1) = omega arith in
    subst (λ j. cover_cmp (get_or (e ∷ es) k d) (get_or (c ∷ e ∷ es) j d) ≡ Less) (sym i) (next_ascends (e ∷ es) a.1 k d (omega arith))

ascends_next : (list : List CoverSets) → ((k : ℕ) (d : CoverSets) → k + 1 < length list → cover_cmp (get_or list k d) (get_or list (k + 1) d) ≡ Less) → IsAscending list
ascends_next [] h = tt
ascends_next (c ∷ []) h = (λ d m. absurd m, tt)
ascends_next (c ∷ e ∷ es) h =
    let first : cover_cmp c e ≡ Less = h 0 c (omega arith) in
    let rest : IsAscending (e ∷ es) = ascends_next (e ∷ es) (λ k d l. let i : suc k + 1 ≡ suc (k + 1) = omega arith in subst (λ j. cover_cmp (get_or (e ∷ es) k d) (get_or (c ∷ e ∷ es) j d) ≡ Less) i (h (suc k) d (omega arith))) in
    (λ d m. go first rest d m, rest)
  where
    go : cover_cmp c e ≡ Less → IsAscending (e ∷ es) → (d : CoverSets) → IsIn d (e ∷ es) → cover_cmp c d ≡ Less
    go first rest d (inl i) = subst (λ x. cover_cmp c x ≡ Less) i first
    go first rest d (inr m) = cover_cmp_total.trans c e d first (rest.0 d m)

pub reduced_is_exact : ReducedIsExact
reduced_is_exact pairs raw list n = (
  λ r.
      same_ascending list (reduced pairs raw) (ascends_next list r.ascends) (reduced_ascends pairs raw)
      (λ c m.
      let f = r.from c (contains_in list c m) in
      in_reduced pairs raw c n (in_contains raw c f.0) f.1
      (to_minimal (all_consistent pairs raw) c (λ d k p.
      let q = filter_from (λ c. consistent pairs c.literals) raw d k in
      r.minimal c d (contains_in list c m) (contains_in raw d q.0) q.1 p)))
      (λ c m.
      let f = reduced_in pairs raw c m in
      let w = r.whole c (contains_in raw c f.0) f.1 in
      let g = r.from w.0 w.1 in
      let i : w.0 ≡ c = minimal_says (all_consistent pairs raw) c w.0 f.2 (filter_to (λ c. consistent pairs c.literals) raw w.0 (in_contains raw w.0 g.0) g.1) w.2 in
      subst (λ x. IsIn x list) i (in_contains list w.0 w.1)),
  λ e. subst (IsReduced pairs raw) (sym e) (record {
    from = λ c m. let f = reduced_in pairs raw c (in_contains _ c m) in (contains_in raw c f.0, f.1);
    minimal = λ c d m k h p.
        let f = reduced_in pairs raw c (in_contains _ c m) in
        minimal_says (all_consistent pairs raw) c d f.2 (filter_to (λ c. consistent pairs c.literals) raw d (in_contains raw d k) h) p;
    whole = λ c m h. let w = reduced_within pairs raw c n (in_contains raw c m) h in (w.0, contains_in _ w.0 w.1, w.2);
    ascends = next_ascends (reduced pairs raw) (reduced_ascends pairs raw);
  }),
)
