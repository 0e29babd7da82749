-- Columns that have all predecessors.
use Rattle.std.proofs.Common.{◌≡◌, ◌⊎◌, inl, inr, ℕ, ◌+◌, ◌<◌, ◌≤◌, Bool, true, false, ◌&&◌, List, length, take, refl, sym, ◌∙◌, ap, subst, arith, Vec}
use Rattle.std.specs.Prelude.{ℤ, slice_index_or, slice_set}
use Rattle.std.specs.List.{All, list_any, list_all}
use Rattle.std.specs.declared.alloc.Global.{Global}
use Rattle.std.proofs.lemmas.Bool.{cases_eq}
use Rattle.std.proofs.lemmas.List.Elements.{All-more, All-take}
use Rattle.std.proofs.lemmas.List.Folds.{Any-from_list_any, list_any_at, list_any_none, list_all_at}
use Rattle.counter_vec.specs.Counters.{at_or_below}
use Rattle.counter_vec.proofs.Galois.{galois}
use Rattle.game_form.specs.Game.{GameData, IsGame}
use Rattle.game_form.specs.Vector.{IsVector, successor, predecessor}
use Rattle.cpre_step.specs.Refinement.{action_works}
use Rattle.game_core.specs.Columns.{AreColumns, IsColumn, AreFull, HaveGrown, column_at, some_covers, each_covers, ColumnData}
use Rattle.game_core.specs.Front.{Misses, under}
use Rattle.game_core.specs.Plan.{AreActions, each_planned}
use Rattle.game_core.proofs.ColumnReads.{column_of, column_here, column_there}
use Rattle.game_core.proofs.Works.{any_weaker, all_weaker}

-- a column is written
pub grown_set : (first columns : List ColumnData) (at : ℕ) (r c : ColumnData) → HaveGrown first columns → at < length columns
    → length (slice_index_or columns at r).items ≤ length c.items → HaveGrown first (slice_set columns at c)
grown_set first columns at r c h lt more other = go (cases_eq other at)
  where
    go : (other ≡ at) ⊎ (other ≡ at → ⊥) → length (column_at first other) ≤ length (column_at (slice_set columns at c) other)
    go (inl e) =
        let old : length (column_at first at) ≤ length (column_at columns at) = h at in
        let here : length (column_at (slice_set columns at c) at) ≡ length c.items = ap length (column_here columns at c lt) in
        let was : length (column_at columns at) ≡ length (slice_index_or columns at r).items = ap length (column_of columns at r lt) in
        subst (λ k. length (column_at first k) ≤ length (column_at (slice_set columns at c) k)) (sym e) (omega arith)
    go (inr ne) =
        let there : length (column_at (slice_set columns at c) other) ≡ length (column_at columns other) = ap length (column_there columns at other c ne) in
        let old = h other in
        omega arith

full_set : (vectors : List (List ℤ)) (columns : List ColumnData) (at : ℕ) (c : ColumnData) (options : List ℕ) → at < length columns
    → length c.items ≡ length vectors → AreFull vectors columns options → AreFull vectors (slice_set columns at c) options
full_set vectors columns at c options lt full h k d within = go (slice_index_or options k d) (h k d within)
  where
    go : (other : ℕ) → length (column_at columns other) ≡ length vectors → length (column_at (slice_set columns at c) other) ≡ length vectors
    go other old = elim (cases_eq other at) [
      | inl e ↦ subst (λ n. length (column_at (slice_set columns at c) n) ≡ length vectors) (sym e) (ap length (column_here columns at c lt) ∙ full)
      | inr ne ↦ ap length (column_there columns at other c ne) ∙ old
    ]

pub full_more : (vectors : List (List ℤ)) (columns : List ColumnData) (c : ColumnData) (options : List ℕ) (i : ℕ) → i < length options
    → slice_index_or options i 0 < length columns → length c.items ≡ length vectors → AreFull vectors columns (take i options)
    → AreFull vectors (slice_set columns (slice_index_or options i 0) c) (take (i + 1) options)
full_more vectors columns c options i lt within full h =
    let at : ℕ = slice_index_or options i 0 in
    All-more (λ n. length (column_at (slice_set columns at c) n) ≡ length vectors) options i 0 lt
    (full_set vectors columns at c (take i options) within full h)
    (ap length (column_here columns at c within) ∙ full)

-- what is full stays so
full_kept : (g : GameData) (vectors : List (List ℤ)) (old new : List ColumnData) (options : List ℕ) → AreColumns g vectors new → HaveGrown old new
    → AreActions (length g.actions) options → AreFull vectors old options → AreFull vectors new options
full_kept g vectors old new options h grown actions full k d lt =
    let a : ℕ = slice_index_or options k d in
    let most = (h.each a (actions k d lt)).short in
    let more : length (column_at old a) ≤ length (column_at new a) = grown a in
    let e : length (column_at old a) ≡ length vectors = full k d lt in
    omega arith

pub plan_full_more : (g : GameData) (vectors : List (List ℤ)) (old new : List ColumnData) (plan : List (Vec ℕ Global)) (i : ℕ) (d : Vec ℕ Global) (options : List ℕ)
    → i < length plan → options ≡ (slice_index_or plan i d).items → AreColumns g vectors new → HaveGrown old new → All (λ c. AreActions (length g.actions) c.items) plan
    → All (λ c. AreFull vectors old c.items) (take i plan) → AreFull vectors new options → All (λ c. AreFull vectors new c.items) (take (i + 1) plan)
plan_full_more g vectors old new plan i d options lt is h grown actions full more =
    All-more (λ (c : Vec ℕ Global). AreFull vectors new c.items) plan i d lt
    (λ k e below. full_kept g vectors old new (slice_index_or (take i plan) k e).items h grown
    (All-take (λ (c : Vec ℕ Global). AreActions (length g.actions) c.items) i plan actions k e below) (full k e below))
    (subst (AreFull vectors new) is more)

pub all_at : {X : Type 0} (p : X → Bool) (xs : List X) (i : ℕ) (d : X) → i < length xs → list_all p xs ≡ true → p (slice_index_or xs i d) ≡ true
all_at p xs i d lt h = go (p (slice_index_or xs i d)) refl
  where
    go : (b : Bool) → p (slice_index_or xs i d) ≡ b → b ≡ true
    go true e = refl
    go false e = let none : list_all p xs ≡ false = list_all_at p xs i d lt e in cc

-- some option of each class works, so of this one
pub planned_at : (test : ℕ → Bool) (plan : List (Vec ℕ Global)) (i : ℕ) (d : Vec ℕ Global) (options : List ℕ) → i < length plan → options ≡ (slice_index_or plan i d).items
    → each_planned test plan ≡ true → list_any test options ≡ true
planned_at test plan i d options lt is planned = ap (list_any test) is ∙ all_at (λ (c : Vec ℕ Global). list_any test c.items) plan i d lt planned

module _ (g : GameData) (known : IsGame g) (vectors : List (List ℤ)) (fit : All (IsVector g) vectors) where
  -- an action that leads u to an entry has an entry whose predecessor is at or above u
  column_covers : (u : List ℤ) → IsVector g u → (action : ℕ) → action < length g.actions → (column : List (List ℤ)) → IsColumn g action vectors column
      → length column ≡ length vectors → action_works g vectors u action ≡ true → under column u ≡ true
  column_covers u is action lt column c full hit =
      let a = Any-from_list_any (λ w. at_or_below (successor g action u) w) vectors hit in
      let within : a.0 < length vectors = a.2 in
      let vector : IsVector g a.1 = subst (IsVector g) a.3 (fit a.0 a.1 within) in
      list_any_at (λ e. at_or_below u e) column a.0 a.1 (omega arith)
      (ap (at_or_below u) (c.each a.0 a.1 (omega arith) ∙ ap (predecessor g action) a.3) ∙ sym (galois g known action lt u a.1 is vector) ∙ a.4)

  pub column_refuses : (u : List ℤ) → IsVector g u → (action : ℕ) → action < length g.actions → (column : List (List ℤ)) → IsColumn g action vectors column
      → length column ≡ length vectors → Misses u column → action_works g vectors u action ≡ false
  column_refuses u is action lt column c full miss = go (action_works g vectors u action) refl
    where
      go : (b : Bool) → action_works g vectors u action ≡ b → b ≡ false
      go false e = refl
      go true e =
          let hit : under column u ≡ true = column_covers u is action lt column c full e in
          let none : under column u ≡ false = list_any_none (λ w. at_or_below u w) column miss in
          cc

module _ (g : GameData) (known : IsGame g) (vectors : List (List ℤ)) (fit : All (IsVector g) vectors) (columns : List ColumnData) (h : AreColumns g vectors columns) where
  covers_where_works : (u : List ℤ) → IsVector g u → (action : ℕ) → action < length g.actions → length (column_at columns action) ≡ length vectors
      → action_works g vectors u action ≡ true → under (column_at columns action) u ≡ true
  covers_where_works u is action lt = column_covers g known vectors fit u is action lt (column_at columns action) (h.each action lt)

  some_where_works : (u : List ℤ) → IsVector g u → (options : List ℕ) → AreActions (length g.actions) options → AreFull vectors columns options
      → list_any (action_works g vectors u) options ≡ true → some_covers u columns options ≡ true
  some_where_works u is options actions full =
      any_weaker (action_works g vectors u) (λ a. under (column_at columns a) u) options
      (λ k d lt. covers_where_works u is (slice_index_or options k d) (actions k d lt) (full k d lt))

  each_where_works : (u : List ℤ) → IsVector g u → (options : List ℕ) → AreActions (length g.actions) options → AreFull vectors columns options
      → list_all (action_works g vectors u) options ≡ true → each_covers u columns options ≡ true
  each_where_works u is options actions full =
      all_weaker (action_works g vectors u) (λ a. under (column_at columns a) u) options
      (λ k d lt. covers_where_works u is (slice_index_or options k d) (actions k d lt) (full k d lt))

  -- what remains below f for a class, and for some class
  pub some_whole : (f : List ℤ) (options : List ℕ) (pieces : List (List ℤ)) → AreActions (length g.actions) options → AreFull vectors columns options
      → ((u : List ℤ) → under pieces u ≡ (at_or_below u f && some_covers u columns options))
      → (u : List ℤ) → IsVector g u → at_or_below u f ≡ true → list_any (action_works g vectors u) options ≡ true → under pieces u ≡ true
  some_whole f options pieces actions full made u vector below works =
      made u ∙ ap (λ b. b && some_covers u columns options) below ∙ some_where_works u vector options actions full works

  pub first_whole : (f : List ℤ) (plan : List (Vec ℕ Global)) (pieces : List (List ℤ)) → All (λ c. AreActions (length g.actions) c.items) plan
      → All (λ c. AreFull vectors columns c.items) plan
      → ((u : List ℤ) → under pieces u ≡ (at_or_below u f && list_any (λ c. each_covers u columns c.items) plan))
      → (u : List ℤ) → IsVector g u → at_or_below u f ≡ true → list_any (λ c. list_all (action_works g vectors u) c.items) plan ≡ true → under pieces u ≡ true
  first_whole f plan pieces actions full made u vector below planned =
      made u ∙ ap (λ b. b && list_any (λ (c : Vec ℕ Global). each_covers u columns c.items) plan) below
      ∙ any_weaker (λ (c : Vec ℕ Global). list_all (action_works g vectors u) c.items) (λ (c : Vec ℕ Global). each_covers u columns c.items) plan
      (λ k d lt. each_where_works u vector (slice_index_or plan k d).items (actions k d lt) (full k d lt)) planned
