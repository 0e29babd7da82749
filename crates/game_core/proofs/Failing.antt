-- Actions that fail, one for each class.
use Rattle.std.proofs.Common.{◌≡◌, ◌⊎◌, inl, inr, ℕ, ◌+◌, ◌<◌, ◌≤◌, List, [], ◌∷◌, ◌++◌, length, sym, subst, arith, Vec, length-append}
use Rattle.std.specs.Prelude.{ℤ, slice_index_or}
use Rattle.std.specs.List.{Contains}
use Rattle.std.specs.declared.alloc.Global.{Global}
use Rattle.std.proofs.lemmas.Bool.{cases_lt}
use Rattle.std.proofs.lemmas.List.{get_or_append_left, get_or_push, get_or_default}
use Rattle.std.proofs.lemmas.List.Elements.{All-push}
use Rattle.game_core.specs.Columns.{column_at, ColumnData}
use Rattle.game_core.specs.Front.{Misses}
use Rattle.game_core.specs.Tried.{AreOptions, FailsEach}

pub contains_at : (xs : List ℕ) (i d : ℕ) → i < length xs → Contains xs (slice_index_or xs i d)
contains_at xs i d lt = (i, lt, get_or_default xs i (slice_index_or xs i d) d lt)

options_pushed : (plan : List (Vec ℕ Global)) (failing : List ℕ) (d : Vec ℕ Global) (a : ℕ) → AreOptions plan failing → length failing < length plan
    → Contains (slice_index_or plan (length failing) d).items a → AreOptions plan (failing ++ a ∷ [])
options_pushed plan failing d a h lt new k r e below within = go (cases_lt k (length failing))
  where
    P : ℕ → Type 0
    P x = Contains (slice_index_or plan k r).items x

    at_end : k ≡ length failing → Contains (slice_index_or plan k r).items a
    at_end is =
        subst (λ (c : Vec ℕ Global). Contains c.items a) (get_or_default plan k d r within)
        (subst (λ n. Contains (slice_index_or plan n d).items a) (sym is) new)

    go : (k < length failing) ⊎ (length failing ≤ k) → Contains (slice_index_or plan k r).items (slice_index_or (failing ++ a ∷ []) k e)
    go (inl less) = subst P (sym (get_or_append_left failing (a ∷ []) e k less)) (h k r e less within)
    go (inr more) =
        let is : k ≡ length failing = omega (arith, length-append failing (a ∷ [])) in
        subst P (sym (get_or_push failing a e k (sym is))) (at_end is)

pub fails_pushed : (f : List ℤ) (columns : List ColumnData) (plan : List (Vec ℕ Global)) (c : ℕ) (failing options : List ℕ) (d : Vec ℕ Global) (a : ℕ)
    → FailsEach f columns plan c failing → c < length plan → options ≡ (slice_index_or plan c d).items → Contains options a → a < length columns
    → Misses f (column_at columns a) → FailsEach f columns plan (c + 1) (failing ++ a ∷ [])
fails_pushed f columns plan c failing options d a h lt is member within miss = record {
  each = omega (arith, h.each, length-append failing (a ∷ []));
  options = options_pushed plan failing d a h.options (omega (arith, h.each))
      (subst (λ n. Contains (slice_index_or plan n d).items a) (sym h.each) (subst (λ xs. Contains xs a) is member));
  actions = All-push (λ x. x < length columns) failing a h.actions within;
  misses = All-push (λ x. Misses f (column_at columns x)) failing a h.misses miss;
}
