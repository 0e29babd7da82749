-- Vectors as functions of the lane, and both orders of the code.
use Rattle.std.proofs.Common.{◌≡◌, ℕ, zero, suc, ◌<◌, ◌≤◌, Bool, true, false, ◌&&◌, subst, List, [], ◌∷◌, map, length, take, drop, ◌++◌, replicate, refl, sym, ◌∙◌, ap, arith, eqb, length-set, get_or-set_same, get_or-set_other, ◌⊎◌, inl, inr}
use Rattle.std.proofs.lemmas.List.{length-replicate, get_or-replicate}
use Rattle.std.proofs.lemmas.Bool.{cases_eq}
use Rattle.std.proofs.Math.Seq.{take-append_seam}
use Rattle.std.specs.Prelude.{ℤ, pos, negsuc, int_le, ◌≤ℤ◌, ◌+ℤ◌, slice_set, Some, None, ◌≢◌, IsTrue, min}
use Rattle.std.proofs.lemmas.Int.{ints, clamps}
use Rattle.std.proofs.lemmas.List.FromFn.{fill_by_all}
use Rattle.std.specs.Ordering.{int_cmp, nat_cmp, ordering_then}
use Rattle.std.specs.declared.cmp.Ordering.{Ordering}
use Rattle.std.specs.declared.cmp.Ordering.TheVariants.{Less, Equal, Greater}
use Rattle.std.specs.Int.{int_max, int_min}
use Rattle.game_form.specs.declared.actions.Step.{Step}
use Rattle.game_form.specs.Game.{row_at}
use Rattle.game_form.specs.Vector.{lane, vector, begins, arrived, allowed, allowed_for, number}
use Rattle.lane_ops.specs.Lanes as ops
use Rattle.lane_ops.specs.Lanes.{IsAtOrBelow}
use Rattle.counter_vec.specs.Counters.{at_or_below, lexicographic, lifted, met, AreCounters}

pub vector_of : (f : ℕ → ℤ) (v : List ℤ) (n : ℕ) → length v ≡ n → ((p : ℕ) → p < n → lane v p ≡ f p) → v ≡ vector n f
vector_of f v n h each = fill_by_all f v n (pos 0) h each

-- what stands in a Vec after all of it was written as a slice
pub whole : (len : ℕ) (new old : List ℤ) → length new ≡ len → take len (new ++ drop (length new) old) ≡ new
whole len new old e = ap (λ n. take n (new ++ drop (length new) old)) (sym e) ∙ take-append_seam new (drop (length new) old)

pub vector_same : (n : ℕ) (k : ℤ) → replicate n k ≡ vector n (λ q. k)
vector_same n k = vector_of (λ q. k) (replicate n k) n (length-replicate n k) (λ p lt. get_or-replicate n p k (pos 0) lt)

pub begins_none : (n : ℕ) → replicate n (negsuc 0) ≡ vector n (begins None)
begins_none n = vector_of (begins None) _ n (length-replicate n (negsuc 0)) (λ p lt. get_or-replicate n p (negsuc 0) (pos 0) lt)

begins_here : (first : ℕ) → begins (Some first) first ≡ pos 0
begins_here first = grind arith

begins_apart : (first p : ℕ) → p ≢ first → begins (Some first) p ≡ negsuc 0
begins_apart first p ne = grind arith

pub begins_some : (n first : ℕ) → first < n → slice_set (replicate n (negsuc 0)) first (pos 0) ≡ vector n (begins (Some first))
begins_some n first lt =
    vector_of (begins (Some first)) _ n (length-set (replicate n (negsuc 0)) first (pos 0) ∙ length-replicate n (negsuc 0)) each
  where
    here : (p : ℕ) → p ≡ first → lane (slice_set (replicate n (negsuc 0)) first (pos 0)) p ≡ begins (Some first) p
    here p e = rw e (get_or-set_same (replicate n (negsuc 0)) first (pos 0) (pos 0) (omega (arith, length-replicate n (negsuc 0))) ∙ sym (begins_here first))

    each : (p : ℕ) → p < n → lane (slice_set (replicate n (negsuc 0)) first (pos 0)) p ≡ begins (Some first) p
    each p h = elim (cases_eq p first) as (λ _. lane (slice_set (replicate n (negsuc 0)) first (pos 0)) p ≡ begins (Some first) p) [
      | inl e ↦ here p e
      | inr ne ↦ get_or-set_other (replicate n (negsuc 0)) first p (pos 0) (pos 0) ne ∙ get_or-replicate n p (negsuc 0) (pos 0) h ∙ sym (begins_apart first p ne)
    ]

both : (a b : Bool) → a ≡ true → b ≡ true → (a && b) ≡ true
both a b h k = rw (h, k)

left : (a b : Bool) → (a && b) ≡ true → a ≡ true
left true b h = refl
left false b h = cc

right : (a b : Bool) → (a && b) ≡ true → b ≡ true
right true b h = h
right false b h = cc

below_test : (x y : ℤ) → int_le x y ≡ true → x ≤ℤ y
below_test x y h = grind (arith, ints)

test_below : (x y : ℤ) → x ≤ℤ y → int_le x y ≡ true
test_below x y h = grind (arith, ints)

int_cmp-same : (x : ℤ) → int_cmp x x ≡ Equal
int_cmp-same x = grind (arith, ints)

then_apart : (o r : Ordering) → (o ≡ Equal → ⊥) → ordering_then o r ≡ o
then_apart Less r h = refl
then_apart Equal r h = absurd (h refl)
then_apart Greater r h = refl

int_cmp-apart : (x y : ℤ) → x ≢ y → int_cmp x y ≡ Equal → ⊥
int_cmp-apart x y ne h = grind (arith, ints)

pub at_or_below-lanes : (u v : List ℤ) → at_or_below u v ≡ true → IsAtOrBelow u v
at_or_below-lanes [] [] h = record { same_length = refl; lanes = λ p lt. absurd (omega arith) }
at_or_below-lanes [] (y ∷ v) h = cc
at_or_below-lanes (x ∷ u) [] h = cc
at_or_below-lanes (x ∷ u) (y ∷ v) h =
    let rest = at_or_below-lanes u v (right _ _ h) in
    record { same_length = omega (arith, rest.same_length); lanes = each rest (left _ _ h) }
  where
    each : IsAtOrBelow u v → int_le x y ≡ true → (p : ℕ) → p < length (x ∷ u) → ops.lane (x ∷ u) p ≤ℤ ops.lane (y ∷ v) p
    each rest first zero lt = below_test x y first
    each rest first (suc p) lt = rest.lanes p (omega arith)

pub lanes-at_or_below : (u v : List ℤ) → IsAtOrBelow u v → at_or_below u v ≡ true
lanes-at_or_below [] [] h = refl
lanes-at_or_below [] (y ∷ v) h = absurd (omega (arith, h.same_length))
lanes-at_or_below (x ∷ u) [] h = absurd (omega (arith, h.same_length))
lanes-at_or_below (x ∷ u) (y ∷ v) h =
    both _ _ (test_below x y (h.lanes 0 (omega arith)))
    (lanes-at_or_below u v (record { same_length = omega (arith, h.same_length); lanes = λ p lt. h.lanes (suc p) (omega arith) }))

-- the first lane that differs decides
pub lexicographic_at : (a b : List ℤ) (p : ℕ) → p < length a → p < length b → ((q : ℕ) → q < p → lane a q ≡ lane b q)
    → lane a p ≢ lane b p → int_cmp (lane a p) (lane b p) ≡ lexicographic a b
lexicographic_at [] b p la lb same differs = absurd (omega arith)
lexicographic_at (x ∷ a) [] p la lb same differs = absurd (omega arith)
lexicographic_at (x ∷ a) (y ∷ b) zero la lb same differs = sym (then_apart (int_cmp x y) _ (int_cmp-apart x y differs))
lexicographic_at (x ∷ a) (y ∷ b) (suc p) la lb same differs =
    let e : x ≡ y = same 0 (omega arith) in
    let f : int_cmp x y ≡ Equal = ap (λ z. int_cmp x z) (sym e) ∙ int_cmp-same x in
    rw f (lexicographic_at a b p (omega arith) (omega arith) (λ q lt. same (suc q) (omega arith)) differs)

nat_cmp-suc : (m n : ℕ) → nat_cmp (suc m) (suc n) ≡ nat_cmp m n
nat_cmp-suc m n = grind arith

pub lexicographic_past : (a b : List ℤ) (n : ℕ) → n ≤ length a → n ≤ length b → (n ≡ length a) ⊎ (n ≡ length b) → ((q : ℕ) → q < n → lane a q ≡ lane b q)
    → nat_cmp (length a) (length b) ≡ lexicographic a b
lexicographic_past [] [] n la lb end same = grind arith
lexicographic_past [] (y ∷ b) n la lb end same = grind arith
lexicographic_past (x ∷ a) [] n la lb end same = grind arith
lexicographic_past (x ∷ a) (y ∷ b) zero la lb end same = absurd (elim end [ inl e ↦ omega arith | inr e ↦ omega arith ])
lexicographic_past (x ∷ a) (y ∷ b) (suc n) la lb end same =
    let e : x ≡ y = same 0 (omega arith) in
    let f : int_cmp x y ≡ Equal = ap (λ z. int_cmp x z) (sym e) ∙ int_cmp-same x in
    let end' : (n ≡ length a) ⊎ (n ≡ length b) = elim end [ inl e ↦ inl (omega arith) | inr e ↦ inr (omega arith) ] in
    rw f (nat_cmp-suc (length a) (length b) ∙ lexicographic_past a b n (omega arith) (omega arith) end' (λ q lt. same (suc q) (omega arith)))

pub min_is_one : (m n k : ℕ) → k ≡ min m n → (k ≡ m) ⊎ (k ≡ n)
min_is_one m n k e = elim (cases_eq k m) [ inl same ↦ inl same | inr ne ↦ inr (omega arith) ]

pub below_decided : (u v : List ℤ) (b : Bool) → (IsTrue b → IsAtOrBelow u v) → (IsAtOrBelow u v → IsTrue b) → b ≡ at_or_below u v
below_decided u v true there back = sym (lanes-at_or_below u v (there refl))
below_decided u v false there back = go (at_or_below u v) refl
  where
    go : (b : Bool) → at_or_below u v ≡ b → false ≡ b
    go true e = back (at_or_below-lanes u v e)
    go false e = refl

pub lengths_differ : (u v : List ℤ) → (length u ≡ length v → ⊥) → eqb (length u) (length v) ≡ at_or_below u v
lengths_differ u v ne = go (at_or_below u v) refl
  where
    apart : eqb (length u) (length v) ≡ false
    apart = grind arith

    go : (b : Bool) → at_or_below u v ≡ b → eqb (length u) (length v) ≡ b
    go true e = absurd (ne (at_or_below-lanes u v e).same_length)
    go false e = apart

-- raised from -1 everywhere
pub raised_from_nothing : (f : ℕ → ℤ) (new old : List ℤ) (len n : ℕ) → len ≡ n → length new ≡ n → old ≡ replicate n (negsuc 0)
    → ((p : ℕ) → negsuc 0 ≤ℤ f p) → ((p : ℕ) → p < length new → lane new p ≡ int_max (lane old p) (f p))
    → take len (new ++ drop (length new) old) ≡ vector n f
raised_from_nothing f new old len n el en eo low each =
    whole len new old (omega arith)
    ∙ vector_of f new n en (λ p lt. each p (omega arith) ∙ ap (λ v. int_max (lane v p) (f p)) eo ∙ ap (λ x. int_max x (f p)) (get_or-replicate n p (negsuc 0) (pos 0) lt) ∙ max_low (f p) (low p))
  where
    max_low : (x : ℤ) → negsuc 0 ≤ℤ x → int_max (negsuc 0) x ≡ x
    max_low x h = omega (arith, ints, clamps)

pub arrived_low : (k : ℕ) (rows : List (List Step)) (f : List ℤ) (p : ℕ) → negsuc 0 ≤ℤ arrived k rows f p
arrived_low k [] f p = omega (arith, ints)
arrived_low k (row ∷ rows) [] p = omega (arith, ints)
arrived_low k (row ∷ rows) (x ∷ f) p = omega (arith, ints, clamps, arrived_low k rows f p)

-- lane by lane what a function of the rows gives
pub mapped : (f : List Step → ℤ) (rows : List (List Step)) (v : List ℤ) → length v ≡ length rows → ((q : ℕ) → q < length v → lane v q ≡ f (row_at rows q)) → v ≡ map f rows
mapped f [] [] h each = refl
mapped f [] (x ∷ v) h each = absurd (omega arith)
mapped f (row ∷ rows) [] h each = absurd (omega arith)
mapped f (row ∷ rows) (x ∷ v) h each =
    let e : x ≡ f row = each 0 (omega arith) in
    let g : v ≡ map f rows = mapped f rows v (omega arith) (λ q lt. each (suc q) (omega arith)) in
    cc

pub lowered : (f : List Step → ℤ) (rows : List (List Step)) (new old : List ℤ) (len : ℕ) → length new ≡ len → length new ≡ length rows
    → ((q : ℕ) → q < length new → lane new q ≡ f (row_at rows q)) → take len (new ++ drop (length new) old) ≡ map f rows
lowered f rows new old len el en each = whole len new old el ∙ mapped f rows new en each

pub allowed_low : (k : ℕ) (row : List Step) (p : ℕ) (v : List ℤ) → negsuc 0 ≤ℤ allowed k row p v
allowed_low k row p [] = omega (arith, ints)
allowed_low k row p (x ∷ v) = omega (arith, ints, clamps, allowed_low k row (suc p) v, allowed_for_low k x (number row p))
  where
    allowed_for_low : (k : ℕ) (x : ℤ) (r : ℕ) → negsuc 0 ≤ℤ allowed_for k x r
    allowed_for_low k x zero = omega (arith, ints)
    allowed_for_low k (pos n) (suc r) = grind (arith, ints)
    allowed_for_low k (negsuc n) (suc r) = omega (arith, ints)

pub lowered_low : (k : ℕ) (rows : List (List Step)) (new old v : List ℤ) (len : ℕ) → length new ≡ len
    → ((q : ℕ) → q < length new → lane new q ≡ allowed k (row_at rows q) 0 v) → AreCounters (take len (new ++ drop (length new) old))
lowered_low k rows new old v len e each = subst AreCounters (sym (whole len new old e)) (λ q lt. rw (each q lt) (allowed_low k (row_at rows q) 0 v))

pub met_of : (u v w : List ℤ) → length w ≡ length u → length u ≡ length v → ((p : ℕ) → p < length w → lane w p ≡ int_min (lane u p) (lane v p)) → w ≡ met u v
met_of [] v [] e f each = refl
met_of [] v (z ∷ w) e f each = absurd (omega arith)
met_of (x ∷ u) v [] e f each = absurd (omega arith)
met_of (x ∷ u) [] (z ∷ w) e f each = absurd (omega arith)
met_of (x ∷ u) (y ∷ v) (z ∷ w) e f each =
    let first : z ≡ int_min x y = each 0 (omega arith) in
    let rest : w ≡ met u v = met_of u v w (omega arith) (omega arith) (λ p lt. each (suc p) (omega arith)) in
    cc

length-met : (u v : List ℤ) → length u ≡ length v → length (met u v) ≡ length u
length-met [] v e = refl
length-met (x ∷ u) [] e = absurd (omega arith)
length-met (x ∷ u) (y ∷ v) e = let h = length-met u v (omega arith) in omega arith

lane-met : (u v : List ℤ) (p : ℕ) → length u ≡ length v → p < length u → lane (met u v) p ≡ int_min (lane u p) (lane v p)
lane-met [] v p e lt = absurd (omega arith)
lane-met (x ∷ u) [] p e lt = absurd (omega arith)
lane-met (x ∷ u) (y ∷ v) zero e lt = refl
lane-met (x ∷ u) (y ∷ v) (suc p) e lt = lane-met u v p (omega arith) (omega arith)

-- what the comparison of the lanes says of the meet
pub met_decided : (u v w : List ℤ) (b : Bool) → length u ≡ length v → length u ≡ length w
    → (IsTrue b → (p : ℕ) → p < length u → int_min (lane u p) (lane v p) ≤ℤ lane w p)
    → (((p : ℕ) → p < length u → int_min (lane u p) (lane v p) ≤ℤ lane w p) → IsTrue b)
    → b ≡ at_or_below (met u v) w
met_decided u v w b e f there back =
    let size : length (met u v) ≡ length u = length-met u v e in
    below_decided (met u v) w b
    (λ h. record { same_length = size ∙ f; lanes = λ p lt. subst (λ x. x ≤ℤ lane w p) (sym (lane-met u v p e (omega arith))) (there h p (omega arith)) })
    (λ h. back (λ p lt. subst (λ x. x ≤ℤ lane w p) (lane-met u v p e lt) (h.lanes p (omega arith))))

pub met_lengths_differ : (u v w : List ℤ) → length u ≡ length v → (length u ≡ length w → ⊥) → eqb (length u) (length w) ≡ at_or_below (met u v) w
met_lengths_differ u v w e ne =
    let size : length (met u v) ≡ length u = length-met u v e in
    ap (λ n. eqb n (length w)) (sym size) ∙ lengths_differ (met u v) w (λ h. ne (sym size ∙ h))

-- the lanes of a list that has each number more
pub lifted_of : (by : ℤ) (v w : List ℤ) → length w ≡ length v → ((p : ℕ) → p < length w → lane w p ≡ lane v p +ℤ by) → w ≡ lifted by v
lifted_of by [] [] e each = refl
lifted_of by [] (z ∷ w) e each = absurd (omega arith)
lifted_of by (x ∷ v) [] e each = absurd (omega arith)
lifted_of by (x ∷ v) (z ∷ w) e each =
    let first : z ≡ x +ℤ by = each 0 (omega arith) in
    let rest : w ≡ lifted by v = lifted_of by v w (omega arith) (λ p lt. each (suc p) (omega arith)) in
    cc
