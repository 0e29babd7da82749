-- Rows with given numbers.
use Rattle.std.proofs.Common.{◌≡◌, ℕ, zero, suc, ◌+◌, ◌<◌, ◌≤◌, Bool, true, false, cond, max, nat_eq, ◌&&◌, List, [], ◌∷◌, map, refl, sym, ◌∙◌, ap, subst, arith, inl, inr, ◌⊎◌}
use Rattle.std.specs.Prelude.{ℤ, pos, ◌≤ℤ◌}
use Rattle.std.specs.List.{range_with_len}
use Rattle.std.proofs.lemmas.Bool.{cases_eq, cases_lt, ne_eqb, eq-eqb}
use Rattle.std.proofs.lemmas.Int.{ints}
use Rattle.std.proofs.lemmas.List.FromFn.{get_or-map-range_with_len, length-map-range_with_len}
use Rattle.word_core.specs.declared.automata.Edge.{Edge}
use Rattle.word_core.specs.Cube.{holds}
use Rattle.game_form.specs.declared.actions.Step.{Step}
use Rattle.game_form.specs.Game.{IsRow, IsAction, row_at}
use Rattle.game_form.specs.Vector.{number}
use Rattle.action_groups.specs.Numbers.{mark_number}
use Rattle.action_groups.specs.Rows.{edge_number}

abbrev step_before : ℕ → ℕ → List Step → List Step
step_before zero to rest = rest
step_before (suc r) to rest = record { to = to; number = pos (suc r) } ∷ rest

-- the steps to so many lanes from one on, whose numbers a function gives
abbrev pub row_from : (ℕ → ℕ) → ℕ → ℕ → List Step
row_from f zero low = []
row_from f (suc n) low = step_before (f low) low (row_from f n (low + 1))

module _ (f : ℕ → ℕ) where
  row_lower : (lanes low : ℕ) (row : List Step) → IsRow lanes (low + 1) row → IsRow lanes low row
  row_lower lanes low [] is = tt
  row_lower lanes low (s ∷ rest) is = (omega (arith, is.0), is.1, is.2, is.3, is.4)

  number_outside : (n low p : ℕ) → (p < low) ⊎ (low + n ≤ p) → number (row_from f n low) p ≡ 0
  number_outside zero low p out = refl
  number_outside (suc n) low p out = go (f low) (number_outside n (low + 1) p (later out))
    where
      later : (p < low) ⊎ (low + suc n ≤ p) → (p < low + 1) ⊎ (low + 1 + n ≤ p)
      later (inl h) = inl (omega arith)
      later (inr h) = inr (omega arith)

      apart : (p < low) ⊎ (low + suc n ≤ p) → low ≡ p → ⊥
      apart (inl h) e = omega arith
      apart (inr h) e = omega arith

      go : (r : ℕ) → number (row_from f n (low + 1)) p ≡ 0 → number (step_before r low (row_from f n (low + 1))) p ≡ 0
      go zero rest = rest
      go (suc r) rest = ap (λ b. cond b (suc r) (number (row_from f n (low + 1)) p)) (ne_eqb low p (apart out)) ∙ rest

  number_inside : (n low p : ℕ) → low ≤ p → p < low + n → number (row_from f n low) p ≡ f p
  number_inside zero low p from below = absurd (omega arith)
  number_inside (suc n) low p from below = by (cases_eq low p) (λ a b. number_inside n (low + 1) p a b)
    where
      here : (r : ℕ) → f low ≡ r → low ≡ p → number (step_before r low (row_from f n (low + 1))) p ≡ f p
      here zero e same = number_outside n (low + 1) p (inl (omega arith)) ∙ sym e ∙ ap f same
      here (suc r) e same = ap (λ b. cond b (suc r) (number (row_from f n (low + 1)) p)) (eq-eqb low p same) ∙ sym e ∙ ap f same

      further : (r : ℕ) → (low ≡ p → ⊥) → number (row_from f n (low + 1)) p ≡ f p → number (step_before r low (row_from f n (low + 1))) p ≡ f p
      further zero ne rest = rest
      further (suc r) ne rest = ap (λ b. cond b (suc r) (number (row_from f n (low + 1)) p)) (ne_eqb low p ne) ∙ rest

      by : (low ≡ p) ⊎ (low ≡ p → ⊥) → (low + 1 ≤ p → p < low + 1 + n → number (row_from f n (low + 1)) p ≡ f p) → number (row_from f (suc n) low) p ≡ f p
      by (inl same) rest = here (f low) refl same
      by (inr ne) rest = further (f low) ne (rest (omega arith) (omega arith))

  row_is : ((p : ℕ) → f p ≤ 2) → (lanes n low : ℕ) → low + n ≤ lanes → IsRow lanes low (row_from f n low)
  row_is small lanes zero low within = tt
  row_is small lanes (suc n) low within = go (f low) (small low) (row_is small lanes n (low + 1) (omega arith))
    where
      one : (r : ℕ) → pos 1 ≤ℤ pos (suc r)
      one r = grind (arith, ints)

      two : (r : ℕ) → r ≤ 1 → pos (suc r) ≤ℤ pos 2
      two r h = grind (arith, ints)

      go : (r : ℕ) → r ≤ 2 → IsRow lanes (low + 1) (row_from f n (low + 1)) → IsRow lanes low (step_before r low (row_from f n (low + 1)))
      go zero h rest = row_lower lanes low (row_from f n (low + 1)) rest
      go (suc r) h rest = let next : low + 1 ≡ suc low = omega arith in (omega arith, omega arith, one r, two r (omega arith), subst (λ k. IsRow lanes k (row_from f n (low + 1))) next rest)

-- the rows of so many lanes, whose numbers a function gives
abbrev pub rows_from : ℕ → (ℕ → ℕ → ℕ) → List (List Step)
rows_from lanes f = map (λ q. row_from (f q) lanes 0) (range_with_len 0 lanes)

pub rows_at : (lanes : ℕ) (f : ℕ → ℕ → ℕ) (q : ℕ) → q < lanes → row_at (rows_from lanes f) q ≡ row_from (f q) lanes 0
rows_at lanes f q l = get_or-map-range_with_len (λ q. row_from (f q) lanes 0) 0 lanes q q [] l (omega arith)

pub rows_are : (lanes : ℕ) (f : ℕ → ℕ → ℕ) → ((q p : ℕ) → f q p ≤ 2) → IsAction lanes (rows_from lanes f)
rows_are lanes f small = record {
  height = length-map-range_with_len (λ q. row_from (f q) lanes 0) 0 lanes;
  row = λ q l.
      let in_lanes : q < lanes = omega (arith, l, length-map-range_with_len (λ q. row_from (f q) lanes 0) 0 lanes) in
      subst (IsRow lanes 0) (sym (rows_at lanes f q in_lanes)) (row_is (f q) (small q) lanes lanes 0 (omega arith));
}

pub rows_number : (lanes : ℕ) (f : ℕ → ℕ → ℕ) → ((q p : ℕ) → q < lanes → lanes ≤ p → f q p ≡ 0) → (q p : ℕ) → q < lanes → number (row_at (rows_from lanes f) q) p ≡ f q p
rows_number lanes f none q p l = ap (λ row. number row p) (rows_at lanes f q l) ∙ by (cases_lt p lanes)
  where
    by : (p < lanes) ⊎ (lanes ≤ p) → number (row_from (f q) lanes 0) p ≡ f q p
    by (inl within) = number_inside (f q) lanes 0 p (omega arith) (omega arith)
    by (inr past) = number_outside (f q) lanes 0 p (inr (omega arith)) ∙ sym (none q p l past)

-- the number of edges is at most 2
pub edges_small : (es : List Edge) (x p : ℕ) → edge_number es x p ≤ 2
edges_small [] x p = omega arith
edges_small (e ∷ es) x p = go (holds e.cube x && nat_eq e.next p) (edges_small es x p)
  where
    marks : (b : Bool) → mark_number b ≤ 2
    marks true = omega arith
    marks false = omega arith

    go : (b : Bool) → edge_number es x p ≤ 2 → max (cond b (mark_number e.marked) 0) (edge_number es x p) ≤ 2
    go true h = omega (arith, h, marks e.marked)
    go false h = omega (arith, h)
