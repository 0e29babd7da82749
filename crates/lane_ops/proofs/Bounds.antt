-- The two steps along a row, one lane at a time.
use Rattle.std.proofs.Common.{ℕ, ◌≡◌, ◌<◌, ◌≤◌, ◌+◌, Bool, true, false, ◌&&◌, ◌⊎◌, inl, inr, refl, subst, arith, List, length, below_more, get_or-set_same, get_or-set_other, ap, ◌∙◌, ◌≢◌}
use Rattle.std.proofs.lemmas.Bool.{cases_lt}
use Rattle.std.specs.Prelude.{slice_set}
use Rattle.std.specs.Prelude.{ℤ, pos, negsuc, ◌+ℤ◌, ◌-ℤ◌, ◌≤ℤ◌}
use Rattle.std.specs.Int.{int_max, int_min}
use Rattle.std.proofs.lemmas.Int.{ints, clamps}
use Rattle.lane_ops.specs.Lanes.{lane, raised, allowed}

pub raised_on : (k v r x : ℤ) → pos 1 ≤ℤ r → raised k v r x ≡ int_max x (int_min (k +ℤ pos 1) ((v +ℤ r) -ℤ pos 1))
raised_on k v r x h = grind (arith, ints)

pub raised_off : (k v r x : ℤ) → r ≡ pos 0 → raised k v r x ≡ x
raised_off k v r x h = grind (arith, ints)

pub allowed_on : (k r s : ℤ) → pos 1 ≤ℤ r → allowed k r s ≡ int_max (negsuc 0) (s -ℤ (r -ℤ pos 1))
allowed_on k r s h = grind (arith, ints)

pub lane-set_other : (v : List ℤ) (i q : ℕ) (x : ℤ) → q ≢ i → lane (slice_set v i x) q ≡ lane v q
lane-set_other v i q x ne = get_or-set_other v i q x (pos 0) ne

pub raised_more : (out old row : List ℤ) (k v x r o : ℤ) (i : ℕ) → i < length out
    → x ≡ raised k v r o → r ≡ lane row i → o ≡ lane out i
    → ((q : ℕ) → q < i → lane out q ≡ raised k v (lane row q) (lane old q)) → ((q : ℕ) → i ≤ q → lane out q ≡ lane old q)
    → ((q : ℕ) → q < i + 1 → lane (slice_set out i x) q ≡ raised k v (lane row q) (lane old q)) × ((q : ℕ) → i + 1 ≤ q → lane (slice_set out i x) q ≡ lane old q)
raised_more out old row k v x r o i h e er eo below above = (
  below_more _ _ (λ q lt. lane-set_other out i q x (omega arith) ∙ below q lt) (get_or-set_same out i x (pos 0) h ∙ e ∙ ap (λ y. raised k v y o) er ∙ ap (raised k v (lane row i)) (eo ∙ above i (omega arith))),
  λ q le. lane-set_other out i q x (omega arith) ∙ above q (omega arith),
)

-- the least over one lane more
pub least_more : (row s : List ℤ) (k least x m r o : ℤ) (i : ℕ) → x ≡ allowed k r o → r ≡ lane row i → o ≡ lane s i → m ≡ int_min least x
    → least ≤ℤ k → ((q : ℕ) → q < i → least ≤ℤ allowed k (lane row q) (lane s q))
    → ((y : ℤ) → y ≤ℤ k → ((q : ℕ) → q < i → y ≤ℤ allowed k (lane row q) (lane s q)) → y ≤ℤ least)
    → (m ≤ℤ k) × ((q : ℕ) → q < i + 1 → m ≤ℤ allowed k (lane row q) (lane s q))
    × ((y : ℤ) → y ≤ℤ k → ((q : ℕ) → q < i + 1 → y ≤ℤ allowed k (lane row q) (lane s q)) → y ≤ℤ m)
least_more row s k least x m r o i e er eo e2 low below most =
    let ex : x ≡ allowed k (lane row i) (lane s i) = e ∙ ap (λ y. allowed k y o) er ∙ ap (allowed k (lane row i)) eo in (
      omega (arith, ints, clamps),
      below_more _ _ (λ q lt. let b = below q lt in omega (arith, ints, clamps)) (omega (arith, ints, clamps)),
      λ y le each. let a = most y le (λ q lt. each q (omega arith)) in let b = each i (omega arith) in omega (arith, ints, clamps),
    )

-- one lane more of which something holds exactly where a test passes
pub all_more : (P : ℕ → Type 0) (from p : ℕ) (all one : Bool) → from ≤ p
    → (all ≡ true → (q : ℕ) → from ≤ q → q < p → P q) → (((q : ℕ) → from ≤ q → q < p → P q) → all ≡ true) → (one ≡ true → P p) → (P p → one ≡ true)
    → ((all && one) ≡ true → (q : ℕ) → from ≤ q → q < p + 1 → P q) × (((q : ℕ) → from ≤ q → q < p + 1 → P q) → (all && one) ≡ true)
all_more P from p all one le each back here there = (
  λ h q low lt. go q low (cases_lt q p) lt (each (left all one h)) (here (right all one h)),
  λ h. both (back (λ q low lt. h q low (omega arith))) (there (h p le (omega arith))),
)
  where
    left : (a b : Bool) → (a && b) ≡ true → a ≡ true
    left true b h = refl
    left false b h = cc

    right : (a b : Bool) → (a && b) ≡ true → b ≡ true
    right true b h = h
    right false b h = cc

    both : all ≡ true → one ≡ true → (all && one) ≡ true
    both h k = rw (h, k) refl

    go : (q : ℕ) → from ≤ q → (q < p) ⊎ (p ≤ q) → q < p + 1 → ((r : ℕ) → from ≤ r → r < p → P r) → P p → P q
    go q low (inl less) lt before last = before q low less
    go q low (inr more) lt before last = subst P (omega arith) last
