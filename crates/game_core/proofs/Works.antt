-- What columns and plans say of the game.
use Rattle.std.proofs.Common.{◌≡◌, ℕ, zero, suc, ◌<◌, ◌≤◌, Bool, true, false, not, ◌&&◌, ◌||◌, List, [], ◌∷◌, length, refl, sym, ◌∙◌, ap, subst, arith, Vec}
use Rattle.std.specs.Prelude.{ℤ, pos, negsuc, ◌≤ℤ◌, slice_index_or}
use Rattle.std.specs.List.{All, list_any, list_all}
use Rattle.std.specs.declared.alloc.Global.{Global}
use Rattle.std.proofs.lemmas.Int.{ints, clamps}
use Rattle.std.proofs.lemmas.Bool.{and_parts}
use Rattle.std.proofs.lemmas.List.Folds.{Any-from_list_any, list_any_at}
use Rattle.std.proofs.lemmas.List.FromFn.{get_or-map-range_with_len, length-map-range_with_len}
use Rattle.antichain_list.specs.Covering.{covered-trans}
use Rattle.counter_vec.specs.Counters.{at_or_below, lexicographic}
use Rattle.counter_vec.specs.Orders.{counters_order}
use Rattle.counter_vec.proofs.Galois.{galois}
use Rattle.word_core.specs.declared.names.Kind.TheVariants.{First, Second}
use Rattle.game_form.specs.declared.actions.Step.{Step}
use Rattle.game_form.specs.Game.{GameData, ClassData, IsGame, row_at, action_at, lanes}
use Rattle.game_form.specs.Vector.{IsVector, lane, number, brought, arrived, bound, successor, predecessor}
use Rattle.cpre_step.specs.Refinement.{action_works, answers, answers_by}
use Rattle.game_core.specs.Columns.{AreColumns, IsColumn, MissesAll, column_at, some_covers, each_covers, ColumnData}
use Rattle.game_core.specs.Front.{Misses, under}
use Rattle.game_core.specs.Plan.{AreActions, NoneWorks, IsAtMost, IsPlan, replaces_by, each_planned, each_class}
use Rattle.game_core.proofs.Orders.{below_from}

pub any_weaker : {X : Type 0} (p q : X → Bool) (xs : List X) → All (λ x. p x ≡ true → q x ≡ true) xs → list_any p xs ≡ true → list_any q xs ≡ true
any_weaker p q xs each h = let a = Any-from_list_any p xs h in list_any_at q xs a.0 a.1 a.2 (each a.0 a.1 a.2 (ap p a.3 ∙ a.4))

pub all_weaker : {X : Type 0} (p q : X → Bool) (xs : List X) → All (λ x. p x ≡ true → q x ≡ true) xs → list_all p xs ≡ true → list_all q xs ≡ true
all_weaker p q [] each h = refl
all_weaker p q (x ∷ xs) each h =
    let parts = and_parts (p x) (list_all p xs) h in
    rw (each zero x (omega arith) parts.0, all_weaker p q xs (λ k d lt. each (suc k) d (omega arith)) parts.1)

module _ (g : GameData) (known : IsGame g) (vectors : List (List ℤ)) (f : List ℤ) (fit : All (IsVector g) vectors) (is : IsVector g f) where
  -- an entry whose predecessor under the action is at or above f answers f
  pub column_works : (action : ℕ) → action < length g.actions → (column : List (List ℤ)) → IsColumn g action vectors column → under column f ≡ true → action_works g vectors f action ≡ true
  column_works action lt column c hit =
      let a = Any-from_list_any (λ e. at_or_below f e) column hit in
      let v : List ℤ = slice_index_or vectors a.0 a.1 in
      let below : a.0 < length vectors = (let s = c.short in let k : a.0 < length column = a.2 in omega arith) in
      let e : a.1 ≡ predecessor g action v = sym a.3 ∙ c.each a.0 a.1 a.2 in
      list_any_at (λ w. at_or_below (successor g action f) w) vectors a.0 a.1 below
      (galois g known action lt f v is (fit a.0 a.1 below) ∙ ap (at_or_below f) (sym e) ∙ a.4)

  -- f is at or below no predecessor where no entry answers it
  column_missed : (action : ℕ) → action < length g.actions → (column : List (List ℤ)) → IsColumn g action vectors column → action_works g vectors f action ≡ false → Misses f column
  column_missed action lt column c refused k d in_column = go (at_or_below f (slice_index_or column k d)) refl
    where
      go : (b : Bool) → at_or_below f (slice_index_or column k d) ≡ b → b ≡ false
      go false e = refl
      go true e = let hit = column_works action lt column c (list_any_at (λ w. at_or_below f w) column k d in_column e) in cc

  pub columns_missed : (columns : List ColumnData) (options : List ℕ) → AreColumns g vectors columns → AreActions (length g.actions) options → NoneWorks g vectors f options
      → MissesAll f columns options
  columns_missed columns options h actions refused k d lt =
      let a : ℕ = slice_index_or options k d in
      column_missed a (actions k d lt) (column_at columns a) (h.each a (actions k d lt)) (refused k d lt)

module _ (g : GameData) (known : IsGame g) (vectors : List (List ℤ)) (f : List ℤ) (fit : All (IsVector g) vectors) (is : IsVector g f) (columns : List ColumnData) (h : AreColumns g vectors columns) where
  column_at_works : (action : ℕ) → action < length g.actions → under (column_at columns action) f ≡ true → action_works g vectors f action ≡ true
  column_at_works action lt = column_works g known vectors f fit is action lt (column_at columns action) (h.each action lt)

  pub some_works_by : (options : List ℕ) → AreActions (length g.actions) options → some_covers f columns options ≡ true → list_any (action_works g vectors f) options ≡ true
  some_works_by options actions = any_weaker (λ a. under (column_at columns a) f) (action_works g vectors f) options (λ k d lt. column_at_works (slice_index_or options k d) (actions k d lt))

  each_works_by : (options : List ℕ) → AreActions (length g.actions) options → each_covers f columns options ≡ true → list_all (action_works g vectors f) options ≡ true
  each_works_by options actions = all_weaker (λ a. under (column_at columns a) f) (action_works g vectors f) options (λ k d lt. column_at_works (slice_index_or options k d) (actions k d lt))

  pub class_works_by : (plan : List (Vec ℕ Global)) → All (λ c. AreActions (length g.actions) c.items) plan → list_any (λ c. each_covers f columns c.items) plan ≡ true
      → list_any (λ c. list_all (action_works g vectors f) c.items) plan ≡ true
  class_works_by plan actions =
      any_weaker (λ (c : Vec ℕ Global). each_covers f columns c.items) (λ (c : Vec ℕ Global). list_all (action_works g vectors f) c.items) plan
      (λ k d lt. each_works_by (slice_index_or plan k d).items (actions k d lt))

brought_mono : (k : ℕ) (x : ℤ) (r s : ℕ) → r ≤ s → brought k x r ≤ℤ brought k x s
brought_mono k (negsuc m) r s h = omega (arith, ints)
brought_mono k (pos n) zero zero h = omega (arith, ints)
brought_mono k (pos n) zero (suc s) h = omega (arith, ints)
brought_mono k (pos n) (suc r) zero h = absurd (omega arith)
brought_mono k (pos n) (suc r) (suc s) h = omega (arith, ints)

arrived_mono : (k : ℕ) (xs ys : List (List Step)) (f : List ℤ) (p : ℕ) → length xs ≡ length ys → ((q : ℕ) → q < length xs → number (row_at xs q) p ≤ number (row_at ys q) p)
    → arrived k xs f p ≤ℤ arrived k ys f p
arrived_mono k [] [] f p e h = omega (arith, ints)
arrived_mono k [] (b ∷ ys) f p e h = absurd (omega arith)
arrived_mono k (a ∷ xs) [] f p e h = absurd (omega arith)
arrived_mono k (a ∷ xs) (b ∷ ys) [] p e h = omega (arith, ints)
arrived_mono k (a ∷ xs) (b ∷ ys) (x ∷ f) p e h =
    let first = brought_mono k x (number a p) (number b p) (h zero (omega arith)) in
    let rest = arrived_mono k xs ys f p (omega arith) (λ q lt. h (suc q) (omega arith)) in
    omega (arith, ints, clamps)

-- the lesser action leads nowhere above the greater one
successor_mono : (g : GameData) → IsGame g → (a b : ℕ) (f : List ℤ) → a < length g.actions → b < length g.actions → IsAtMost g a b → at_or_below (successor g a f) (successor g b f) ≡ true
successor_mono g known a b f in_a in_b h =
    let la : length (action_at g a) ≡ lanes g = (known.actions a in_a).height in
    let lb : length (action_at g b) ≡ lanes g = (known.actions b in_b).height in
    let sa : length (successor g a f) ≡ lanes g = length-map-range_with_len (arrived (bound g) (action_at g a) f) 0 (lanes g) in
    let sb : length (successor g b f) ≡ lanes g = length-map-range_with_len (arrived (bound g) (action_at g b) f) 0 (lanes g) in
    below_from (successor g a f) (successor g b f) (sa ∙ sym sb)
    (λ p lt.
    let within : p < lanes g = omega arith in
    let ea : lane (successor g a f) p ≡ arrived (bound g) (action_at g a) f p = get_or-map-range_with_len (arrived (bound g) (action_at g a) f) 0 (lanes g) p p (pos 0) within (omega arith) in
    let eb : lane (successor g b f) p ≡ arrived (bound g) (action_at g b) f p = get_or-map-range_with_len (arrived (bound g) (action_at g b) f) 0 (lanes g) p p (pos 0) within (omega arith) in
    rw (ea, eb) (arrived_mono (bound g) (action_at g a) (action_at g b) f p (la ∙ sym lb) (λ q in_rows. h q p (omega arith))))

works_below : (g : GameData) → IsGame g → (list : List (List ℤ)) (f : List ℤ) (a b : ℕ) → a < length g.actions → b < length g.actions → IsAtMost g a b
    → action_works g list f b ≡ true → action_works g list f a ≡ true
works_below g known list f a b in_a in_b h = covered-trans at_or_below lexicographic counters_order (successor g a f) (successor g b f) list (successor_mono g known a b f in_a in_b h)

not_both : (x y : Bool) → (x ≡ true → y ≡ true) → not y ≡ true → not x ≡ true
not_both false y h k = refl
not_both true y h k = let e = h refl in cc

-- some class of which all work, as each class has not one that doesn't
not_any : {X : Type 0} (p : X → Bool) (xs : List X) → list_any (λ x. not (p x)) xs ≡ not (list_all p xs)
not_any p [] = refl
not_any p (x ∷ xs) = ap (λ b. not (p x) || b) (not_any p xs) ∙ de_morgan (p x) (list_all p xs)
  where
    de_morgan : (a b : Bool) → (not a || not b) ≡ not (a && b)
    de_morgan true b = refl
    de_morgan false b = refl

not_all : {X : Type 0} (p q : X → Bool) (xs : List X) → ((x : X) → p x ≡ not (q x)) → list_all p xs ≡ not (list_any q xs)
not_all p q [] e = refl
not_all p q (x ∷ xs) e = ap (λ b. b && list_all p xs) (e x) ∙ ap (λ b. not (q x) && b) (not_all p q xs e) ∙ de_morgan (q x) (list_any q xs)
  where
    de_morgan : (a b : Bool) → (not a && not b) ≡ not (a || b)
    de_morgan true b = refl
    de_morgan false b = refl

same_not : (a b : Bool) → not a ≡ not b → a ≡ b
same_not true true e = refl
same_not true false e = cc
same_not false true e = cc
same_not false false e = refl

module _ (g : GameData) (known : IsGame g) (plan : List (Vec ℕ Global)) (h : IsPlan g plan) (list : List (List ℤ)) (f : List ℤ) where
  pub second_plan : g.kind ≡ Second → each_planned (action_works g list f) plan ≡ answers g list f
  second_plan kind =
      h.same (action_works g list f) (record {
        passes = λ a b in_a in_b r. works_below g known list f a b in_a in_b (subst (λ k. replaces_by k g a b) kind r);
      })
      ∙ sym (ap (λ k. answers_by k g list f) kind)

  pub first_plan : g.kind ≡ First → list_any (λ c. list_all (action_works g list f) c.items) plan ≡ answers g list f
  first_plan kind =
      let misses : ℕ → Bool = λ a. not (action_works g list f a) in
      let whole : each_planned misses plan ≡ each_class misses g.classes = h.same misses (record {
        passes = λ a b in_a in_b r. not_both _ _ (works_below g known list f b a in_b in_a (subst (λ k. replaces_by k g a b) kind r));
      }) in
      let planned : each_planned misses plan ≡ not (list_any (λ (c : Vec ℕ Global). list_all (action_works g list f) c.items) plan) =
      not_all (λ (c : Vec ℕ Global). list_any misses c.items) (λ (c : Vec ℕ Global). list_all (action_works g list f) c.items) plan (λ c. not_any (action_works g list f) c.items) in
      let classes : each_class misses g.classes ≡ not (list_any (λ (c : ClassData). list_all (λ o. action_works g list f o.0) c.options) g.classes) =
      not_all (λ (c : ClassData). list_any (λ o. misses o.0) c.options) (λ (c : ClassData). list_all (λ o. action_works g list f o.0) c.options) g.classes
      (λ c. not_any (λ o. action_works g list f o.0) c.options) in
      same_not _ _ (sym planned ∙ whole ∙ classes) ∙ sym (ap (λ k. answers_by k g list f) kind)
