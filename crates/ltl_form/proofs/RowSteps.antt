-- Rows of truth values, one position or one formula more.
use Rattle.std.proofs.Common.{Vec, Global, ◌≡◌, ℕ, zero, suc, ◌+◌, ◌-◌, ◌<◌, ◌≤◌, Bool, true, false, nat_eq, ◌⊎◌, inl, inr, List, [], ◌∷◌, ◌++◌, length, get_or, set, refl, ap, sym, ◌∙◌, subst, arith}
use borrow.Author.Tests.{eqb-true, eqb-false}
use Rattle.std.proofs.lemmas.Bool.{cases_lt}
use Rattle.std.proofs.lemmas.List.{get_or_append_left, get_or_push, length_push, get_or-set_same, get_or-set_other}
use Rattle.word_core.specs.Lasso.{LassoData, size}
use Rattle.ltl_form.specs.Meaning.{after, until_within, release_within, until_at, release_at, tree_holds}
use Rattle.ltl_form.specs.Rows.{at, Tells, AreRows}
use Rattle.ltl_form.specs.Tree.{Tree, truth}
use Rattle.ltl_form.proofs.Walks.{after_next, after_last, after_below, until_enough, release_enough, until_near, release_near}

pub tells_same : (n : ℕ) (f g : ℕ → Bool) (row : List Bool) → ((p : ℕ) → p < n → f p ≡ g p) → Tells n f row → Tells n g row
tells_same n f g row same h = record { long = h.long; says = λ p l. h.says p l ∙ same p l }

module _ (w : LassoData) (some : length w.stem < size w) where
  pub next_tells : (f : ℕ → Bool) (fs row : List Bool) → Tells (size w) f fs → Tells (size w) (λ p. at fs (after w p)) row → Tells (size w) (λ p. f (after w p)) row
  next_tells f fs row h = tells_same (size w) _ _ row (λ p l. h.says (after w p) (after_below w p some l))

  pub until_tells : (f g : ℕ → Bool) (fs gs row : List Bool) → Tells (size w) f fs → Tells (size w) g gs → Tells (size w) (until_at w (at fs) (at gs)) row → Tells (size w) (until_at w f g) row
  until_tells f g fs gs row h k = tells_same (size w) _ _ row (λ p l. until_near w (at fs) (at gs) f g some h.says k.says (size w) p l)

  pub release_tells : (f g : ℕ → Bool) (fs gs row : List Bool) → Tells (size w) f fs → Tells (size w) g gs → Tells (size w) (release_at w (at fs) (at gs)) row → Tells (size w) (release_at w f g) row
  release_tells f g fs gs row h k = tells_same (size w) _ _ row (λ p l. release_near w (at fs) (at gs) f g some h.says k.says (size w) p l)

  -- two passes are enough
  pub until_passes : (f g : ℕ → Bool) (row : List Bool) → Tells (size w) (λ p. until_within w f g (size w - p + (size w - length w.stem + 0)) p) row → Tells (size w) (until_at w f g) row
  until_passes f g row = tells_same (size w) _ _ row (λ p l. until_enough w f g (size w - length w.stem + 0) (omega arith) some p l)

  pub release_passes : (f g : ℕ → Bool) (row : List Bool) → Tells (size w) (λ p. release_within w f g (size w - p + (size w - length w.stem + 0)) p) row → Tells (size w) (release_at w f g) row
  release_passes f g row = tells_same (size w) _ _ row (λ p l. release_enough w f g (size w - length w.stem + 0) (omega arith) some p l)

  -- one position back: what W says after n more steps is made by `one` of what it says at the position after, after n
  pub pass_step : (W : ℕ → ℕ → Bool) (one : ℕ → Bool → Bool) → ((n p : ℕ) → W (suc n) p ≡ one p (W n (after w p)))
      → (old row : List Bool) (done p : ℕ) (v : Bool) → length row ≡ size w → suc (done + p) ≡ size w → (done ≡ 0 → row ≡ old)
      → ((m : ℕ) → at old (length w.stem) ≡ W m (length w.stem) → (q : ℕ) → size w ≤ q + done → q < size w → at row q ≡ W (size w - q + m) q)
      → v ≡ one p (at row (after w p))
      → (m : ℕ) → at old (length w.stem) ≡ W m (length w.stem) → (q : ℕ) → size w ≤ q + (done + 1) → q < size w → at (set row p v) q ≡ W (size w - q + m) q
  pass_step W one law old row done p v long back begin said is m h q from within = by (nat_eq q p) refl
    where
      rest : (n : ℕ) → done ≡ n → at row (after w p) ≡ W (done + m) (after w p)
      rest zero e =
          let last : after w p ≡ length w.stem = after_last w p (omega arith) in
          ap (λ l. at l (after w p)) (begin e) ∙ ap (at old) last ∙ h ∙ ap (W m) (sym last) ∙ ap (λ k. W k (after w p)) (omega arith)
      rest (suc n) e =
          let next : after w p ≡ suc p = after_next w p (omega arith) in
          ap (at row) next ∙ said m h (suc p) (omega arith) (omega arith) ∙ ap (W (size w - suc p + m)) (sym next) ∙ ap (λ k. W k (after w p)) (omega arith)

      by : (b : Bool) → nat_eq q p ≡ b → at (set row p v) q ≡ W (size w - q + m) q
      by true e =
          let here : q ≡ p = eqb-true q p e in
          ap (at (set row p v)) here ∙ get_or-set_same row p v false (omega arith) ∙ is ∙ ap (one p) (rest done refl) ∙ sym (law (done + m) p)
          ∙ ap (λ k. W k p) (omega arith) ∙ ap (W (size w - q + m)) (sym here)
      by false e =
          let other : q ≡ p → ⊥ = eqb-false q p e in
          get_or-set_other row p q v false other ∙ said m h q (omega arith) within

-- one formula more
pub rows_more : (w : LassoData) (trees : List Tree) (rows : List (Vec Bool Global)) (row : Vec Bool Global) → AreRows w trees rows
    → Tells (size w) (tree_holds w (get_or trees (length rows) truth)) row.items → AreRows w trees (rows ++ row ∷ [])
rows_more w trees rows row h new n d l = by (cases_lt n (length rows))
  where
    by : (n < length rows) ⊎ (length rows ≤ n) → Tells (size w) (tree_holds w (get_or trees n truth)) (get_or (rows ++ row ∷ []) n d).items
    by (inl e) = subst (λ r. Tells (size w) (tree_holds w (get_or trees n truth)) r.items) (sym (get_or_append_left rows (row ∷ []) d n e)) (h n d e)
    by (inr e) =
        let here : length rows ≡ n = omega (arith, length_push rows row) in
        subst (λ r. Tells (size w) (tree_holds w (get_or trees n truth)) r.items) (sym (get_or_push rows row d n here))
        (subst (λ k. Tells (size w) (tree_holds w (get_or trees k truth)) row.items) here new)

-- what a row that was read tells
pub row_tells : (w : LassoData) (trees : List Tree) (rows : List (Vec Bool Global)) (n : ℕ) (row : Vec Bool Global) (items : List Bool) → AreRows w trees rows → n < length rows
    → row ≡ get_or rows n row → items ≡ row.items → Tells (size w) (tree_holds w (get_or trees n truth)) items
row_tells w trees rows n row items known within is same =
    subst (Tells (size w) (tree_holds w (get_or trees n truth))) (sym same)
    (subst (λ r. Tells (size w) (tree_holds w (get_or trees n truth)) r.items) (sym is) (known n row within))

pub some_cycle : (w : LassoData) → 0 < length w.cycle → length w.stem < size w
some_cycle w h = omega arith
