-- Columns as they are read and written.
use Rattle.std.proofs.Common.{◌≡◌, ◌⊎◌, inl, inr, ℕ, zero, suc, ◌+◌, ◌<◌, ◌≤◌, List, [], ◌∷◌, ◌++◌, length, map, refl, sym, ◌∙◌, ap, subst, arith, length-append, length-set}
use Rattle.std.specs.Prelude.{ℤ, slice_index_or, slice_set}
use Rattle.std.specs.List.{All, remove}
use Rattle.std.proofs.lemmas.Bool.{cases_eq, cases_lt}
use Rattle.std.proofs.lemmas.List.{get_or_append_left, get_or_push, get_or_default, get_or-set_same, get_or-set_other, length-map}
use Rattle.std.proofs.lemmas.List.Edits.{get_or-remove_below, get_or-remove_above, length-remove}
use Rattle.game_form.specs.Game.{GameData, IsGame, lanes}
use Rattle.game_form.specs.Vector.{predecessor}
use Rattle.game_core.specs.Columns.{AreColumns, IsColumn, column_at, ColumnData}
use Rattle.game_core.specs.Front.{Misses}
use Rattle.game_core.proofs.Orders.{length_predecessor}

pub column_of : (columns : List ColumnData) (at : ℕ) (d : ColumnData) → at < length columns → column_at columns at ≡ (slice_index_or columns at d).items
column_of [] at d h = absurd (omega arith)
column_of (c ∷ columns) zero d h = refl
column_of (c ∷ columns) (suc at) d h = column_of columns at d (omega arith)

pub column_read : (columns : List ColumnData) (at : ℕ) (r : ColumnData) → at < length columns → r ≡ slice_index_or columns at r → column_at columns at ≡ r.items
column_read columns at r h e = column_of columns at r h ∙ ap (λ (z : ColumnData). z.items) (sym e)

pub miss_column : (f : List ℤ) (columns : List ColumnData) (at : ℕ) (r : ColumnData) → at < length columns → r ≡ slice_index_or columns at r → Misses f (column_at columns at) → Misses f r.items
miss_column f columns at r h e m =
    let P : List (List ℤ) → Type 0 = λ z. Misses f z in
    subst P (column_read columns at r h e) m

-- one more predecessor
pub column_pushed : (g : GameData) (action : ℕ) (vectors column : List (List ℤ)) (j : ℕ) (v p : List ℤ) → IsColumn g action vectors column
    → length column ≡ j → j < length vectors → v ≡ slice_index_or vectors j v → p ≡ predecessor g action v → IsColumn g action vectors (column ++ p ∷ [])
column_pushed g action vectors column j v p h len lt is made = record {
  short = omega (arith, length-append column (p ∷ []));
  each = λ i d below. go i d (cases_lt i (length column)) below;
}
  where
    at_end : (d : List ℤ) → p ≡ predecessor g action (slice_index_or vectors j d)
    at_end d = made ∙ ap (predecessor g action) (is ∙ get_or_default vectors j v d lt)

    go : (i : ℕ) (d : List ℤ) → (i < length column) ⊎ (length column ≤ i) → i < length (column ++ p ∷ []) → slice_index_or (column ++ p ∷ []) i d ≡ predecessor g action (slice_index_or vectors i d)
    go i d (inl less) below = get_or_append_left column (p ∷ []) d i less ∙ h.each i d less
    go i d (inr more) below =
        let size : length (column ++ p ∷ []) ≡ length column + 1 = length-append column (p ∷ []) in
        let e : i ≡ j = omega arith in
        get_or_push column p d i (omega arith) ∙ at_end d ∙ ap (λ k. predecessor g action (slice_index_or vectors k d)) (sym e)

-- a column is written
items_set : (columns : List ColumnData) (at : ℕ) (c : ColumnData) → map (λ x. x.items) (slice_set columns at c) ≡ slice_set (map (λ x. x.items) columns) at c.items
items_set [] at c = refl
items_set (x ∷ columns) zero c = refl
items_set (x ∷ columns) (suc at) c = ap (λ xs. x.items ∷ xs) (items_set columns at c)

pub column_here : (columns : List ColumnData) (at : ℕ) (c : ColumnData) → at < length columns → column_at (slice_set columns at c) at ≡ c.items
column_here columns at c lt =
    ap (λ xs. slice_index_or xs at []) (items_set columns at c)
    ∙ get_or-set_same (map (λ (x : ColumnData). x.items) columns) at c.items [] (omega (arith, length-map columns (λ (x : ColumnData). x.items)))

pub column_there : (columns : List ColumnData) (at other : ℕ) (c : ColumnData) → (other ≡ at → ⊥) → column_at (slice_set columns at c) other ≡ column_at columns other
column_there columns at other c ne =
    ap (λ xs. slice_index_or xs other []) (items_set columns at c)
    ∙ get_or-set_other (map (λ (x : ColumnData). x.items) columns) at other c.items [] ne

pub columns_set : (g : GameData) (vectors : List (List ℤ)) (columns : List ColumnData) (at : ℕ) (c : ColumnData)
    → AreColumns g vectors columns → at < length columns → IsColumn g at vectors c.items → AreColumns g vectors (slice_set columns at c)
columns_set g vectors columns at c h lt new = record {
  same_length = length-set columns at c ∙ h.same_length;
  each = λ action within. go action within (cases_eq action at);
}
  where
    go : (action : ℕ) → action < length g.actions → (action ≡ at) ⊎ (action ≡ at → ⊥) → IsColumn g action vectors (column_at (slice_set columns at c) action)
    go action within (inl e) =
        subst (λ a. IsColumn g a vectors (column_at (slice_set columns at c) a)) (sym e) (subst (IsColumn g at vectors) (sym (column_here columns at c lt)) new)
    go action within (inr ne) = subst (IsColumn g action vectors) (sym (column_there columns at action c ne)) (h.each action within)

pub column_is : (g : GameData) (vectors : List (List ℤ)) (columns : List ColumnData) (at : ℕ) (r : ColumnData)
    → AreColumns g vectors columns → at < length columns → r ≡ slice_index_or columns at r → IsColumn g at vectors r.items
column_is g vectors columns at r h lt e = subst (IsColumn g at vectors) (column_read columns at r lt e) (h.each at (let n = h.same_length in omega arith))

pub column_none : (g : GameData) (action : ℕ) (vectors : List (List ℤ)) → IsColumn g action vectors []
column_none g action vectors = record { short = omega arith; each = λ i d below. absurd (omega arith) }

pub empty_columns : (g : GameData) (vectors : List (List ℤ)) (columns : List ColumnData) → length columns ≡ length g.actions → All (λ c. length c.items ≡ 0) columns → AreColumns g vectors columns
empty_columns g vectors columns len none = record {
  same_length = len;
  each = λ action lt. (let size = size_at columns action none in record { short = omega arith; each = λ i d below. absurd (omega arith) });
}
  where
    size_at : (cs : List ColumnData) (at : ℕ) → All (λ c. length c.items ≡ 0) cs → length (column_at cs at) ≡ 0
    size_at [] at h = refl
    size_at (c ∷ cs) zero h = h zero c (omega arith)
    size_at (c ∷ cs) (suc at) h = size_at cs at (λ k d lt. h (suc k) d (omega arith))

-- a vector more
pub columns_pushed : (g : GameData) (vectors : List (List ℤ)) (v : List ℤ) (columns : List ColumnData) → AreColumns g vectors columns → AreColumns g (vectors ++ v ∷ []) columns
columns_pushed g vectors v columns h = record {
  same_length = h.same_length;
  each = λ action lt. (let c = h.each action lt in longer action (column_at columns action) c);
}
  where
    longer : (action : ℕ) (column : List (List ℤ)) → IsColumn g action vectors column → IsColumn g action (vectors ++ v ∷ []) column
    longer action column c = record {
      short = (let s = c.short in omega (arith, length-append vectors (v ∷ [])));
      each = λ i d lt. (let s = c.short in c.each i d lt ∙ ap (predecessor g action) (sym (get_or_append_left vectors (v ∷ []) d i (omega arith))));
    }

-- a vector less, in the column or behind it
pub column_removed : (g : GameData) (action : ℕ) (vectors column : List (List ℤ)) (gone : ℕ) → IsColumn g action vectors column → gone < length column
    → IsColumn g action (remove vectors gone) (remove column gone)
column_removed g action vectors column gone c lt = record {
  short = omega (arith, long, short);
  each = λ i d below. go i d (cases_lt i gone) below;
}
  where
    within : gone < length vectors
    within = let s = c.short in omega arith

    long : length (remove vectors gone) + 1 ≡ length vectors
    long = length-remove vectors gone within

    short : length (remove column gone) + 1 ≤ length vectors
    short = let s = c.short in omega (arith, length-remove column gone lt)

    go : (i : ℕ) (d : List ℤ) → (i < gone) ⊎ (gone ≤ i) → i < length (remove column gone) → slice_index_or (remove column gone) i d ≡ predecessor g action (slice_index_or (remove vectors gone) i d)
    go i d (inl less) below =
        get_or-remove_below column gone d i less lt ∙ c.each i d (omega arith) ∙ ap (predecessor g action) (sym (get_or-remove_below vectors gone d i less within))
    go i d (inr more) below =
        let size = length-remove column gone lt in
        get_or-remove_above column gone d i more lt ∙ c.each (i + 1) d (omega arith) ∙ ap (predecessor g action) (sym (get_or-remove_above vectors gone d i more within))

pub column_kept : (g : GameData) (action : ℕ) (vectors column : List (List ℤ)) (gone : ℕ) → IsColumn g action vectors column → gone < length vectors → length column ≤ gone
    → IsColumn g action (remove vectors gone) column
column_kept g action vectors column gone c lt behind = record {
  short = omega (arith, length-remove vectors gone lt);
  each = λ i d below. c.each i d below ∙ ap (predecessor g action) (sym (get_or-remove_below vectors gone d i (omega arith) lt));
}

-- the columns below a place are without a vector, the others still have it
pub record AreDropped (g : GameData) (vectors : List (List ℤ)) (gone at : ℕ) (columns : List ColumnData) : Type 0 where
  pub same_length : length columns ≡ length g.actions
  pub done : (action : ℕ) → action < length g.actions → action < at → IsColumn g action (remove vectors gone) (column_at columns action)
  pub todo : (action : ℕ) → action < length g.actions → at ≤ action → IsColumn g action vectors (column_at columns action)

pub dropped_none : (g : GameData) (vectors : List (List ℤ)) (gone : ℕ) (columns : List ColumnData) → AreColumns g vectors columns → AreDropped g vectors gone 0 columns
dropped_none g vectors gone columns h = record { same_length = h.same_length; done = λ action lt less. absurd (omega arith); todo = λ action lt more. h.each action lt }

pub dropped_all : (g : GameData) (vectors : List (List ℤ)) (gone at : ℕ) (columns : List ColumnData) → AreDropped g vectors gone at columns → length columns ≤ at → AreColumns g (remove vectors gone) columns
dropped_all g vectors gone at columns h le = record { same_length = h.same_length; each = λ action lt. h.done action lt (let n = h.same_length in omega arith) }

pub dropped_more : (g : GameData) (vectors : List (List ℤ)) (gone at : ℕ) (columns : List ColumnData) (d c : ColumnData) → AreDropped g vectors gone at columns → at < length columns
    → (IsColumn g at vectors (slice_index_or columns at d).items → IsColumn g at (remove vectors gone) c.items) → AreDropped g vectors gone (at + 1) (slice_set columns at c)
dropped_more g vectors gone at columns d c h lt made = record {
  same_length = length-set columns at c ∙ h.same_length;
  done = λ action within less. go action within less (cases_eq action at);
  todo = λ action within more. subst (IsColumn g action vectors) (sym (column_there columns at action c (λ e. omega arith))) (h.todo action within (omega arith));
}
  where
    new : IsColumn g at (remove vectors gone) c.items
    new = made (subst (IsColumn g at vectors) (column_of columns at d lt) (h.todo at (let n = h.same_length in omega arith) (omega arith)))

    go : (action : ℕ) → action < length g.actions → action < at + 1 → (action ≡ at) ⊎ (action ≡ at → ⊥) → IsColumn g action (remove vectors gone) (column_at (slice_set columns at c) action)
    go action within less (inl e) =
        subst (λ a. IsColumn g a (remove vectors gone) (column_at (slice_set columns at c) a)) (sym e) (subst (IsColumn g at (remove vectors gone)) (sym (column_here columns at c lt)) new)
    go action within less (inr ne) = subst (IsColumn g action (remove vectors gone)) (sym (column_there columns at action c ne)) (h.done action within (omega arith))

-- members of columns have as many lanes as f
pub column_lanes : (g : GameData) (vectors : List (List ℤ)) (columns : List ColumnData) (f : List ℤ) → IsGame g → length f ≡ lanes g → AreColumns g vectors columns
    → All (λ c. All (λ p. length p ≡ length f) c.items) columns
column_lanes g vectors columns f known same h k d lt i e below =
    let within : k < length g.actions = (let n = h.same_length in omega arith) in
    let c : IsColumn g k vectors (slice_index_or columns k d).items = subst (IsColumn g k vectors) (column_of columns k d lt) (h.each k within) in
    ap length (c.each i e below) ∙ length_predecessor g k (slice_index_or vectors i e) known within ∙ sym same
