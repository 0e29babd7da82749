-- What lists of vectors are at or above, as vectors are added to them.
use Rattle.std.proofs.Common.{◌≡◌, ℕ, zero, suc, ◌+◌, ◌<◌, Bool, true, false, not, ◌&&◌, ◌||◌, cond, List, [], ◌∷◌, length, take, refl, sym, ◌∙◌, ap, subst, arith, Option, Some, None, IfSome, IfNone, is_some}
use Rattle.std.specs.Prelude.{ℤ, Vec, slice_index_or}
use Rattle.std.specs.List.{All, AllPairs, Contains, filter, insert, list_any, list_all}
use Rattle.std.specs.declared.alloc.Global.{Global}
use Rattle.std.proofs.lemmas.List.Elements.{All-nil, All-cons, All-filter}
use Rattle.std.proofs.lemmas.List.Folds.{list_any_more, list_all_more, list_all_at, list_any_none, list_any_at}
use Rattle.std.proofs.lemmas.List.Kept.{AllPairs-cons, AllPairs-filter}
use Rattle.antichain_list.specs.Covering.{covered-trans, covered-without_below}
use Rattle.counter_vec.specs.Counters.{at_or_below, lexicographic}
use Rattle.counter_vec.specs.Orders.{counters_order, below-trans}
use Rattle.game_core.specs.Columns.{column_at, some_covers, each_covers, ColumnData}
use Rattle.game_core.specs.Front.{IsApart, Misses, under}

or_false : (b : Bool) → (b || false) ≡ b
or_false true = refl
or_false false = refl

or_true : (b : Bool) → (b || true) ≡ true
or_true true = refl
or_true false = refl

or_comm : (a b : Bool) → (a || b) ≡ (b || a)
or_comm true b = sym (or_true b)
or_comm false b = sym (or_false b)

or_assoc : (a b c : Bool) → ((a || b) || c) ≡ (a || (b || c))
or_assoc true b c = refl
or_assoc false b c = refl

and_false : (b : Bool) → (b && false) ≡ false
and_false true = refl
and_false false = refl

and_assoc : (a b c : Bool) → ((a && b) && c) ≡ (a && (b && c))
and_assoc true b c = refl
and_assoc false b c = refl

-- a vector that is under the list adds nothing
pub under_absorbs : (u v : List ℤ) (xs : List (List ℤ)) → under xs v ≡ true → under xs u ≡ (under xs u || at_or_below u v)
under_absorbs u v xs h = go (at_or_below u v) refl
  where
    go : (b : Bool) → at_or_below u v ≡ b → under xs u ≡ (under xs u || b)
    go false e = sym (or_false (under xs u))
    go true e = covered-trans at_or_below lexicographic counters_order u v xs e h ∙ sym (or_true (under xs u))

-- a vector in front of the others, without those at or below it
pub fronted : (p : List ℤ) (old kept new : List (List ℤ)) → kept ≡ filter (λ x. not (at_or_below x p)) old → new ≡ insert kept 0 p
    → new ≡ p ∷ filter (λ x. not (at_or_below x p)) old
fronted p old kept new h k = k ∙ ap (λ xs. insert xs 0 p) h

pub under_replaced : (u p : List ℤ) (xs : List (List ℤ)) → under (p ∷ filter (λ x. not (at_or_below x p)) xs) u ≡ (under xs u || at_or_below u p)
under_replaced u p xs = covered-without_below at_or_below lexicographic counters_order u p xs ∙ or_comm (at_or_below u p) (under xs u)

all_passed : (p : List ℤ → Bool) (xs : List (List ℤ)) → All (λ x. p x ≡ true) (filter p xs)
all_passed p [] = All-nil (λ x. p x ≡ true)
all_passed p (x ∷ xs) = go (p x) refl (all_passed p xs)
  where
    go : (b : Bool) → p x ≡ b → All (λ y. p y ≡ true) (filter p xs) → All (λ y. p y ≡ true) (cond b (x ∷ filter p xs) (filter p xs))
    go true e rest = All-cons (λ y. p y ≡ true) x (filter p xs) e rest
    go false e rest = rest

not_true : (b : Bool) → not b ≡ true → b ≡ false
not_true true h = cc
not_true false h = refl

pub apart_replaced : (p : List ℤ) (xs : List (List ℤ)) → AllPairs IsApart xs → Misses p xs → AllPairs IsApart (p ∷ filter (λ x. not (at_or_below x p)) xs)
apart_replaced p xs apart miss =
    let keep : List ℤ → Bool = λ x. not (at_or_below x p) in
    let passed : All (λ x. keep x ≡ true) (filter keep xs) = all_passed keep xs in
    let missed : Misses p (filter keep xs) = All-filter keep (λ e. at_or_below p e ≡ false) xs miss in
    AllPairs-cons IsApart p (filter keep xs)
    (λ k d lt. (missed k d lt, not_true _ (passed k d lt)))
    (AllPairs-filter IsApart keep xs apart)

pub apart_filtered : (p : List ℤ) (xs : List (List ℤ)) → AllPairs IsApart xs → AllPairs IsApart (filter (λ x. not (at_or_below x p)) xs)
apart_filtered p xs apart = AllPairs-filter IsApart (λ x. not (at_or_below x p)) xs apart

-- a search among the vectors
pub found_under : (o : Option ℕ) (v : List ℤ) (vs : List (List ℤ)) → IfSome o (λ _. under vs v ≡ true) → IfNone o (Misses v vs) → is_some o ≡ under vs v
found_under (Some i) v vs some none = sym some
found_under None v vs some none = sym (list_any_none (λ e. at_or_below v e) vs none)

pub misses_from : (p : List ℤ) (xs : List (List ℤ)) → under xs p ≡ false → Misses p xs
misses_from p xs h k d lt = go (at_or_below p (slice_index_or xs k d)) refl
  where
    go : (b : Bool) → at_or_below p (slice_index_or xs k d) ≡ b → b ≡ false
    go false e = refl
    go true e = let t : under xs p ≡ true = list_any_at (λ e. at_or_below p e) xs k d lt e in cc

-- one more member of a column, met with v
met_step : (a b c d : Bool) → ((a || (b && c)) || (b && d)) ≡ (a || (b && (c || d)))
met_step true b c d = refl
met_step false true c d = refl
met_step false false c d = refl

pub meets_more : (u v p : List ℤ) (first now new column : List (List ℤ)) (j : ℕ) → j < length column → p ≡ slice_index_or column j p
    → under now u ≡ (under first u || (at_or_below u v && under (take j column) u))
    → under new u ≡ (under now u || (at_or_below u v && at_or_below u p))
    → under new u ≡ (under first u || (at_or_below u v && under (take (j + 1) column) u))
meets_more u v p first now new column j lt is old made =
    let more : under (take (j + 1) column) u ≡ (under (take j column) u || at_or_below u p) =
    list_any_more (λ e. at_or_below u e) column j p lt ∙ ap (λ e. under (take j column) u || at_or_below u e) (sym is) in
    made ∙ ap (λ b. b || (at_or_below u v && at_or_below u p)) old
    ∙ met_step (under first u) (at_or_below u v) (under (take j column) u) (at_or_below u p)
    ∙ ap (λ b. under first u || (at_or_below u v && b)) (sym more)

pub meets_none : (u v : List ℤ) (first : List (List ℤ)) → under first u ≡ (under first u || (at_or_below u v && false))
meets_none u v first = sym (ap (λ b. under first u || b) (and_false (at_or_below u v)) ∙ or_false (under first u))

-- one more option of which some is covered
pub options_more : (u f : List ℤ) (now new : List (List ℤ)) (columns : List ColumnData) (options : List ℕ) (i : ℕ) → i < length options
    → under now u ≡ (at_or_below u f && some_covers u columns (take i options))
    → under new u ≡ (under now u || (at_or_below u f && under (column_at columns (slice_index_or options i 0)) u))
    → under new u ≡ (at_or_below u f && some_covers u columns (take (i + 1) options))
options_more u f now new columns options i lt old made =
    let here : Bool = under (column_at columns (slice_index_or options i 0)) u in
    made ∙ ap (λ b. b || (at_or_below u f && here)) old
    ∙ met_step false (at_or_below u f) (some_covers u columns (take i options)) here
    ∙ ap (λ b. at_or_below u f && b) (sym (list_any_more (λ at. under (column_at columns at) u) options i 0 lt))

-- one more piece, met with a column
pieces_step : (a b c : Bool) → ((a && c) || (b && c)) ≡ ((a || b) && c)
pieces_step true true true = refl
pieces_step true true false = refl
pieces_step true false true = refl
pieces_step true false false = refl
pieces_step false b c = refl

pub narrowed_more : (u p : List ℤ) (now new pieces column : List (List ℤ)) (i : ℕ) → i < length pieces → p ≡ slice_index_or pieces i p
    → under now u ≡ (under (take i pieces) u && under column u)
    → under new u ≡ (under now u || (at_or_below u p && under column u))
    → under new u ≡ (under (take (i + 1) pieces) u && under column u)
narrowed_more u p now new pieces column i lt is old made =
    let more : under (take (i + 1) pieces) u ≡ (under (take i pieces) u || at_or_below u p) =
    list_any_more (λ e. at_or_below u e) pieces i p lt ∙ ap (λ e. under (take i pieces) u || at_or_below u e) (sym is) in
    made ∙ ap (λ b. b || (at_or_below u p && under column u)) old
    ∙ pieces_step (under (take i pieces) u) (at_or_below u p) (under column u)
    ∙ ap (λ b. b && under column u) (sym more)

-- one more option, all of which are covered
pub class_more : (u : List ℤ) (first : Bool) (now new : List (List ℤ)) (columns : List ColumnData) (options : List ℕ) (i : ℕ) → i < length options
    → under now u ≡ (first && each_covers u columns (take i options))
    → under new u ≡ (under now u && under (column_at columns (slice_index_or options i 0)) u)
    → under new u ≡ (first && each_covers u columns (take (i + 1) options))
class_more u first now new columns options i lt old made =
    let here : Bool = under (column_at columns (slice_index_or options i 0)) u in
    made ∙ ap (λ b. b && here) old
    ∙ and_assoc first (each_covers u columns (take i options)) here
    ∙ ap (λ b. first && b) (sym (list_all_more (λ at. under (column_at columns at) u) options i 0 lt))

and_true : (b : Bool) → b ≡ (b && true)
and_true true = refl
and_true false = refl

pub class_none : (u : List ℤ) (now : List (List ℤ)) (first : Bool) → under now u ≡ first → under now u ≡ (first && true)
class_none u now first h = h ∙ and_true first

-- what each option covers, a failing one of them covers
all_contains : (p : ℕ → Bool) (xs : List ℕ) (x : ℕ) → Contains xs x → list_all p xs ≡ true → p x ≡ true
all_contains p xs x c h = at xs c.0 c.1 c.2 h
  where
    at : (xs : List ℕ) (k : ℕ) → k < length xs → slice_index_or xs k x ≡ x → list_all p xs ≡ true → p x ≡ true
    at xs k lt e h = go (p x) refl
      where
        go : (b : Bool) → p x ≡ b → b ≡ true
        go true is = refl
        go false is = let none : list_all p xs ≡ false = list_all_at p xs k x lt (ap p e ∙ is) in cc

class_step : (a x y : Bool) → (y ≡ true → x ≡ true) → ((a && x) && y) ≡ (a && y)
class_step true x true h = rw (h refl) refl
class_step true true false h = refl
class_step true false false h = refl
class_step false x y h = refl

-- one more class, with a failing option of it
pub classes_more : (u f : List ℤ) (now pieces new : List (List ℤ)) (columns : List ColumnData) (plan : List (Vec ℕ Global)) (options : List ℕ) (failing c : ℕ) (d : Vec ℕ Global) → c < length plan
    → options ≡ (slice_index_or plan c d).items
    → Contains (slice_index_or plan c d).items failing
    → under now u ≡ (at_or_below u f && list_any (λ o. each_covers u columns o.items) (take c plan))
    → under pieces u ≡ ((at_or_below u f && under (column_at columns failing) u) && each_covers u columns options)
    → under new u ≡ (under now u || under pieces u)
    → under new u ≡ (at_or_below u f && list_any (λ o. each_covers u columns o.items) (take (c + 1) plan))
classes_more u f now pieces new columns plan options failing c d lt is member old made both =
    let here : Bool = each_covers u columns (slice_index_or plan c d).items in
    let narrow : under pieces u ≡ (at_or_below u f && here) =
    made ∙ ap (λ xs. (at_or_below u f && under (column_at columns failing) u) && each_covers u columns xs) is
    ∙ class_step (at_or_below u f) (under (column_at columns failing) u) here (all_contains (λ at. under (column_at columns at) u) (slice_index_or plan c d).items failing member) in
    both ∙ ap (λ b. b || under pieces u) old
    ∙ ap (λ b. (at_or_below u f && list_any (λ (o : Vec ℕ Global). each_covers u columns o.items) (take c plan)) || b) narrow
    ∙ met_step false (at_or_below u f) (list_any (λ (o : Vec ℕ Global). each_covers u columns o.items) (take c plan)) here
    ∙ ap (λ b. at_or_below u f && b) (sym (list_any_more (λ (o : Vec ℕ Global). each_covers u columns o.items) plan c d lt))

not_below : (f v p : List ℤ) → at_or_below v f ≡ false → at_or_below p f ≡ true → at_or_below v p ≡ false
not_below f v p above below = go (at_or_below v p) refl
  where
    go : (b : Bool) → at_or_below v p ≡ b → b ≡ false
    go false h = refl
    go true h = let t : at_or_below v f ≡ true = below-trans v p f h below in cc

-- what is not at or below f is at or below no piece of it
pub misses_pieces : (f : List ℤ) (vs pieces : List (List ℤ)) → All (λ e. at_or_below e f ≡ false) vs → All (λ p. at_or_below p f ≡ true) pieces → All (λ e. Misses e pieces) vs
misses_pieces f vs pieces above below k d lt i e within = not_below f (slice_index_or vs k d) (slice_index_or pieces i e) (above k d lt) (below i e within)

-- pieces that are put one after another
pub put_under : (u p : List ℤ) (now new rest : List (List ℤ)) (whole : Bool)
    → (under now u || under (p ∷ rest) u) ≡ whole → under new u ≡ (under now u || at_or_below u p) → (under new u || under rest u) ≡ whole
put_under u p now new rest whole old made = ap (λ b. b || under rest u) made ∙ or_assoc (under now u) (at_or_below u p) (under rest u) ∙ old

pub put_end : (u : List ℤ) (now rest : List (List ℤ)) (whole : Bool) → rest ≡ [] → (under now u || under rest u) ≡ whole → under now u ≡ whole
put_end u now rest whole none h = sym (or_false (under now u)) ∙ ap (λ r. under now u || under r u) (sym none) ∙ h

-- pieces to come
pub first_missed : (p : List ℤ) (vs all rest : List (List ℤ)) → all ≡ p ∷ rest → All (λ e. Misses e all) vs → All (λ e. at_or_below e p ≡ false) vs
first_missed p vs all rest is h k d lt = let miss : Misses (slice_index_or vs k d) (p ∷ rest) = subst (Misses (slice_index_or vs k d)) is (h k d lt) in miss zero p (omega arith)

pub rest_missed : (p : List ℤ) (vs all rest : List (List ℤ)) → all ≡ p ∷ rest → All (λ e. Misses e all) vs → All (λ e. Misses e rest) vs
rest_missed p vs all rest is h k d lt i e within =
    let miss : Misses (slice_index_or vs k d) (p ∷ rest) = subst (Misses (slice_index_or vs k d)) is (h k d lt) in miss (suc i) e (omega arith)

pub rest_apart : (p : List ℤ) (all rest : List (List ℤ)) → all ≡ p ∷ rest → AllPairs IsApart all → AllPairs IsApart rest
rest_apart p all rest is h i j d less lt = let apart : AllPairs IsApart (p ∷ rest) = subst (AllPairs IsApart) is h in apart (suc i) (suc j) d (omega arith) (omega arith)

pub first_apart : (p : List ℤ) (all rest : List (List ℤ)) → all ≡ p ∷ rest → AllPairs IsApart all → Misses p rest
first_apart p all rest is h k d lt = let apart : AllPairs IsApart (p ∷ rest) = subst (AllPairs IsApart) is h in (apart zero (suc k) d (omega arith) (omega arith)).0

-- what no vector of a list is at or above, and none is below, is comparable with none
pub apart_from : (p : List ℤ) (xs : List (List ℤ)) → All (λ e. at_or_below e p ≡ false) xs → under xs p ≡ false → All (λ e. IsApart e p) xs
apart_from p xs above h = let miss = misses_from p xs h in λ k d lt. (above k d lt, miss k d lt)
