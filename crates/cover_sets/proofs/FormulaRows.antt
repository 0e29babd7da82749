-- The rows of formulas and of sets of them.
use Rattle.std.proofs.Common.{◌≡◌, ℕ, zero, suc, ◌+◌, ◌^◌, ◌<◌, ◌≤◌, ◌≢◌, Bool, true, false, not, ◌&&◌, ◌||◌, cond, nat_eq, eqb, List, [], ◌∷◌, ◌++◌, length, map, get_or, take, drop, Some, None, Result, Ok, Err, refl, sym, ap, ◌∙◌, subst, arith}
use Rattle.std.specs.Prelude.{bit_or, All, fold}
use Rattle.std.specs.Result.{IfErr, IfOk, IsErrAnd}
use Rattle.std.specs.List.{filter, flat_map, list_any, range_with_len}
use Rattle.std.proofs.lemmas.Bool.{eqb-true, eqb-false, false≢true}
use Rattle.std.proofs.lemmas.List.{append-nil, append_assoc, drop_all, drop_more, get_or_read, get_or-map, length-map, length_push, take_more}
use Rattle.std.proofs.lemmas.List.Concat.{flat_map-append}
use Rattle.std.proofs.lemmas.List.Elements.{All-append, All-cons, All-head, All-map, All-nil, All-push, All-tail, filter-append}
use Rattle.std.proofs.lemmas.Nat.Bits.{bit_at-pow_other, bit_at-zero}
use Rattle.ltl_form.specs.declared.normals.Node.{Node}
use Rattle.ltl_form.specs.declared.normals.Node.TheVariants.{True, False, Lit, And, Or, Next, Until, Release}
use Rattle.cover_sets.specs.declared.bit_covers.BitCover.{BitCover}
use Rattle.cover_sets.specs.declared.cover_lists.CoverError.{CoverError}
use Rattle.cover_sets.specs.declared.cover_lists.CoverError.TheVariants.{TooWide}
use Rattle.cover_sets.specs.Bits.{set_of, sets_of}
use Rattle.cover_sets.specs.Cover.{ArePairs, IsPair, IsRowConsistent, TableData, set_from, table_of}
use Rattle.cover_sets.specs.Covers.{CoverSets, Row, ascending, both, consistent, contrary, minimal_of, narrow, negations, no_demand, node_at, only, opposites, pairs_with, part_of, products, raw_of, reduced, reduced_row, row_at, rows_after, rows_of, set_row, times, until_raw, with_members, with_two}
use Rattle.cover_sets.specs.Numbers.{has}
use Rattle.cover_sets.specs.Union.{AreConsistent, AreDifferent, covers_of}
use Rattle.cover_sets.proofs.Orders.{range_split}
use Rattle.cover_sets.proofs.Parts.{part_self}
use Rattle.cover_sets.proofs.Unions.{err_told}
use Rattle.cover_sets.proofs.Words.{or_zero}

-- ---- consistent covers

nothing_in : (n : ℕ) → has 0 n ≡ false
nothing_in n = ap (λ b. nat_eq b 1) (bit_at-zero n)

pub consistent_none : (pairs : List (ℕ × ℕ)) → consistent pairs 0 ≡ true
consistent_none [] = refl
consistent_none (p ∷ ps) = ap (λ t. not ((t && has 0 p.1) || list_any (λ p. has 0 p.0 && has 0 p.1) ps)) (nothing_in p.0) ∙ consistent_none ps

only_one : (n m : ℕ) → n ≢ m → has (2 ^ n) m ≡ false
only_one n m h = ap (λ b. nat_eq b 1) (bit_at-pow_other n m (λ e. h (sym e)))

not_both_in : (n a b : ℕ) → a ≢ b → (has (2 ^ n) a && has (2 ^ n) b) ≡ false
not_both_in n a b h = go (eqb n a) refl
  where
    and_false : (t : Bool) → (t && false) ≡ false
    and_false true = refl
    and_false false = refl

    go : (t : Bool) → eqb n a ≡ t → (has (2 ^ n) a && has (2 ^ n) b) ≡ false
    go true e = ap (λ t. has (2 ^ n) a && t) (only_one n b (λ i. h (sym (eqb-true n a e) ∙ i))) ∙ and_false (has (2 ^ n) a)
    go false e = ap (λ t. t && has (2 ^ n) b) (only_one n a (eqb-false n a e))

pub consistent_one : (pairs : List (ℕ × ℕ)) (n : ℕ) → ArePairs pairs → consistent pairs (2 ^ n) ≡ true
consistent_one [] n h = refl
consistent_one (p ∷ ps) n h =
    ap (λ t. not (t || list_any (λ p. has (2 ^ n) p.0 && has (2 ^ n) p.1) ps)) (not_both_in n p.0 p.1 (All-head IsPair p ps h).2)
    ∙ consistent_one ps n (All-tail IsPair p ps h)

pub consistent_covers : (pairs : List (ℕ × ℕ)) (xs : List BitCover) → All (λ c. consistent pairs c.literals ≡ true) (covers_of xs) → AreConsistent pairs xs
consistent_covers pairs xs h = λ k d l.
    let e : length (covers_of xs) ≡ length xs = length-map xs sets_of in
    subst (λ (c : CoverSets). consistent pairs c.literals ≡ true) (get_or-map sets_of xs k d (sets_of d) l) (h k (sets_of d) (omega arith))

pub covers_consistent : (pairs : List (ℕ × ℕ)) (xs : List BitCover) → AreConsistent pairs xs → All (λ c. consistent pairs c.literals ≡ true) (covers_of xs)
covers_consistent pairs xs h = All-map (λ c. consistent pairs c.literals ≡ true) sets_of xs h

pub row_consistent : (pairs : List (ℕ × ℕ)) (row : Row) (xs : List BitCover) → IsRowConsistent pairs row → row ≡ Some (covers_of xs) → AreConsistent pairs xs
row_consistent pairs row xs h e = consistent_covers pairs xs (subst (IsRowConsistent pairs) e h)

pub consistent_row : (pairs : List (ℕ × ℕ)) (row : Row) (xs : List BitCover) → AreConsistent pairs xs → row ≡ Some (covers_of xs) → IsRowConsistent pairs row
consistent_row pairs row xs h e = subst (IsRowConsistent pairs) (sym e) (covers_consistent pairs xs h)

pub one_consistent : (pairs : List (ℕ × ℕ)) (c : BitCover) → consistent pairs (set_of c.literals) ≡ true → AreConsistent pairs (c ∷ [])
one_consistent pairs c h = All-cons (λ (c : BitCover). consistent pairs (set_of c.literals) ≡ true) c [] h (All-nil (λ (c : BitCover). consistent pairs (set_of c.literals) ≡ true))

-- ---- lists of one cover

both_nothing : (c : CoverSets) → both c no_demand ≡ c
both_nothing c = ap (λ x. record_of x (bit_or c.next 0) (bit_or c.postponed 0)) (or_zero c.literals) ∙ ap (λ x. record_of c.literals x (bit_or c.postponed 0)) (or_zero c.next) ∙ ap (record_of c.literals c.next) (or_zero c.postponed)
  where
    record_of : ℕ → ℕ → ℕ → CoverSets
    record_of x y z = record { literals = x; next = y; postponed = z }

pub products_nothing : (xs : List CoverSets) → products xs (no_demand ∷ []) ≡ xs
products_nothing [] = refl
products_nothing (x ∷ xs) = ap (λ c. c ∷ products xs (no_demand ∷ [])) (both_nothing x) ∙ ap (λ cs. x ∷ cs) (products_nothing xs)

pub reduced_one : (pairs : List (ℕ × ℕ)) (c : CoverSets) → consistent pairs c.literals ≡ true → reduced pairs (c ∷ []) ≡ c ∷ []
unfolding reduced
reduced_one pairs c h =
    ap (λ t. minimal_of (cond t (c ∷ []) [])) h
    ∙ single (part_of c c) (part_self c)
  where
    single : (t : Bool) → part_of c c ≡ true → minimal_of (c ∷ []) ≡ c ∷ []
    single t e = ap (λ b. ascending (cond ((not b || b) && true) (c ∷ []) [])) e

pub row_one : (pairs : List (ℕ × ℕ)) (c : CoverSets) → consistent pairs c.literals ≡ true → narrow (reduced pairs (c ∷ [])) ≡ Some (c ∷ [])
row_one pairs c h = ap narrow (reduced_one pairs c h)

pub row_nil : (pairs : List (ℕ × ℕ)) → narrow (reduced pairs []) ≡ Some []
unfolding reduced
row_nil pairs = refl

-- ---- the rows of two formulas

pub two_rows : (pairs : List (ℕ × ℕ)) (h : List CoverSets → List CoverSets → List CoverSets) (x y : Row) (xs ys raw : List CoverSets) → x ≡ Some xs → y ≡ Some ys → raw ≡ h xs ys
    → reduced_row pairs (with_two h x y) ≡ narrow (reduced pairs raw)
two_rows pairs h x y xs ys raw e f r = ap (λ a. reduced_row pairs (with_two h a y)) e ∙ ap (λ b. reduced_row pairs (with_two h (Some xs) b)) f ∙ ap (λ cs. narrow (reduced pairs cs)) (sym r)

pub put_off_more : (n : ℕ) (fs gs raw new : List CoverSets) (i : ℕ) (c : CoverSets) → i < length fs → c ≡ both (get_or fs i no_demand) (only 0 (2 ^ n) (2 ^ n))
    → raw ≡ until_raw n (take i fs) gs → new ≡ raw ++ c ∷ [] → new ≡ until_raw n (take (i + 1) fs) gs
put_off_more n fs gs raw new i c l e h k =
    k
    ∙ ap (λ cs. cs ++ c ∷ []) h
    ∙ append_assoc gs (products (take i fs) (only 0 (2 ^ n) (2 ^ n) ∷ [])) (c ∷ [])
    ∙ ap (λ x. gs ++ (products (take i fs) (only 0 (2 ^ n) (2 ^ n) ∷ []) ++ x ∷ [])) e
    ∙ ap (λ cs. gs ++ cs) (sym (flat_map-append (λ x. map (both x) (only 0 (2 ^ n) (2 ^ n) ∷ [])) (take i fs) (get_or fs i no_demand ∷ [])))
    ∙ ap (λ cs. gs ++ products cs (only 0 (2 ^ n) (2 ^ n) ∷ [])) (sym (take_more fs i no_demand l))

-- ---- the rows of all formulas

pub rows_more : (pairs : List (ℕ × ℕ)) (rows new : List Row) (nodes : List Node) (i : ℕ) (all : List Row) (d : Node) (row : Row) → i < length nodes → length rows ≡ i
    → rows_after pairs rows (drop i nodes) ≡ all → row ≡ reduced_row pairs (raw_of rows (length rows) (get_or nodes i d)) → new ≡ rows ++ row ∷ []
    → rows_after pairs new (drop (i + 1) nodes) ≡ all
unfolding rows_after
rows_more pairs rows new nodes i all d row l k h e n =
    ap (λ rs. rows_after pairs rs (drop (i + 1) nodes)) (n ∙ ap (λ r. rows ++ r ∷ []) e)
    ∙ sym (ap (rows_after pairs rows) (drop_more nodes i d l)) ∙ h

pub rows_end : (pairs : List (ℕ × ℕ)) (rows : List Row) (nodes : List Node) (i : ℕ) (all : List Row) → length nodes ≤ i → rows_after pairs rows (drop i nodes) ≡ all → rows ≡ all
unfolding rows_after
rows_end pairs rows nodes i all l h = sym (ap (rows_after pairs rows) (drop_all i nodes l)) ∙ h

-- ---- the members of a set

times_none : (pairs : List (ℕ × ℕ)) (row : Row) → times pairs None row ≡ None
times_none pairs row = refl

wide_times : (pairs : List (ℕ × ℕ)) (list : Row) → times pairs list None ≡ None
wide_times pairs None = refl
wide_times pairs (Some xs) = refl

pub wide_members : (pairs : List (ℕ × ℕ)) (set n : ℕ) (rows : List Row) → with_members pairs set n rows None ≡ None
wide_members pairs set n [] = refl
wide_members pairs set n (row ∷ rows) = go (has set n) (wide_members pairs set (n + 1) rows)
  where
    go : (b : Bool) → with_members pairs set (n + 1) rows None ≡ None → with_members pairs set (n + 1) rows (cond b (times pairs None row) None) ≡ None
    go true rec = rec
    go false rec = rec

members_open : (pairs : List (ℕ × ℕ)) (set i : ℕ) (rows : List Row) (list : Row) (d : Row) (b : Bool) → i < length rows → has set i ≡ b
    → with_members pairs set i (drop i rows) list ≡ with_members pairs set (i + 1) (drop (i + 1) rows) (cond b (times pairs list (get_or rows i d)) list)
members_open pairs set i rows list d b l h =
    ap (λ rs. with_members pairs set i rs list) (drop_more rows i d l) ∙ ap (λ t. with_members pairs set (i + 1) (drop (i + 1) rows) (cond t (times pairs list (get_or rows i d)) list)) h

pub member_more : (pairs : List (ℕ × ℕ)) (set i : ℕ) (rows : List Row) (list new all : Row) (d : Row) → i < length rows → has set i ≡ true
    → with_members pairs set i (drop i rows) list ≡ all → times pairs list (get_or rows i d) ≡ new → with_members pairs set (i + 1) (drop (i + 1) rows) new ≡ all
member_more pairs set i rows list new all d l t h e = ap (with_members pairs set (i + 1) (drop (i + 1) rows)) (sym e) ∙ sym (members_open pairs set i rows list d true l t) ∙ h

pub member_wide : (pairs : List (ℕ × ℕ)) (set i : ℕ) (rows : List Row) (list all : Row) (d : Row) → i < length rows → has set i ≡ true
    → with_members pairs set i (drop i rows) list ≡ all → times pairs list (get_or rows i d) ≡ None → all ≡ None
member_wide pairs set i rows list all d l t h e = sym (member_more pairs set i rows list None all d l t h e) ∙ wide_members pairs set (i + 1) (drop (i + 1) rows)

pub member_wide_row : (pairs : List (ℕ × ℕ)) (set i : ℕ) (rows : List Row) (list all : Row) (d : Row) → i < length rows → has set i ≡ true
    → with_members pairs set i (drop i rows) list ≡ all → get_or rows i d ≡ None → all ≡ None
member_wide_row pairs set i rows list all d l t h e = member_wide pairs set i rows list all d l t h (ap (times pairs list) e ∙ wide_times pairs list)

pub member_none : (pairs : List (ℕ × ℕ)) (set i : ℕ) (rows : List Row) (list all : Row) (d : Row) → i < length rows → has set i ≡ false
    → with_members pairs set i (drop i rows) list ≡ all → with_members pairs set (i + 1) (drop (i + 1) rows) list ≡ all
member_none pairs set i rows list all d l t h = sym (members_open pairs set i rows list d false l t) ∙ h

pub members_end : (pairs : List (ℕ × ℕ)) (set i : ℕ) (rows : List Row) (list all : Row) → length rows ≤ i → with_members pairs set i (drop i rows) list ≡ all → all ≡ list
members_end pairs set i rows list all l h = sym h ∙ ap (λ rs. with_members pairs set i rs list) (drop_all i rows l)

-- ---- the pairs of literals

pairs_append : (n : ℕ) (xs ys : List ℕ) → pairs_with n (xs ++ ys) ≡ pairs_with n xs ++ pairs_with n ys
pairs_append n [] ys = refl
pairs_append n (x ∷ xs) ys = ap (λ ps. (n, x) ∷ ps) (pairs_append n xs ys)

pub read_node : (nodes : List Node) (i : ℕ) (x : Node) → i < length nodes → x ≡ get_or nodes i x → x ≡ node_at nodes i
read_node nodes i x l e = get_or_read nodes i x l e True

pub negations_more : (n i : ℕ) (node : Node) (nodes : List Node) (xs new : List (ℕ × ℕ)) (before : List (ℕ × ℕ)) (b : Bool) → contrary node (node_at nodes i) ≡ b
    → xs ≡ before ++ pairs_with n (filter (λ m. contrary node (node_at nodes m)) (range_with_len 0 i))
    → new ≡ xs ++ cond b ((n, i) ∷ []) []
    → new ≡ before ++ pairs_with n (filter (λ m. contrary node (node_at nodes m)) (range_with_len 0 (i + 1)))
negations_more n i node nodes xs new before b h e k =
    k ∙ ap (λ ys. ys ++ cond b ((n, i) ∷ []) []) e
    ∙ append_assoc before (pairs_with n (filter (λ m. contrary node (node_at nodes m)) (range_with_len 0 i))) (cond b ((n, i) ∷ []) [])
    ∙ ap (λ ys. before ++ ys) (sym whole)
  where
    last : (c : Bool) → contrary node (node_at nodes i) ≡ c → pairs_with n (filter (λ m. contrary node (node_at nodes m)) (i ∷ [])) ≡ cond c ((n, i) ∷ []) []
    last true p = ap (λ t. pairs_with n (cond t (i ∷ []) [])) p
    last false p = ap (λ t. pairs_with n (cond t (i ∷ []) [])) p

    zero_plus : 0 + i ≡ i
    zero_plus = omega arith

    whole : pairs_with n (filter (λ m. contrary node (node_at nodes m)) (range_with_len 0 (i + 1)))
        ≡ pairs_with n (filter (λ m. contrary node (node_at nodes m)) (range_with_len 0 i)) ++ cond b ((n, i) ∷ []) []
    whole =
        ap (λ ns. pairs_with n (filter (λ m. contrary node (node_at nodes m)) ns)) (range_split 0 i 1)
        ∙ ap (pairs_with n) (filter-append (λ m. contrary node (node_at nodes m)) (range_with_len 0 i) ((0 + i) ∷ []))
        ∙ pairs_append n (filter (λ m. contrary node (node_at nodes m)) (range_with_len 0 i)) (filter (λ m. contrary node (node_at nodes m)) ((0 + i) ∷ []))
        ∙ ap (λ j. pairs_with n (filter (λ m. contrary node (node_at nodes m)) (range_with_len 0 i)) ++ pairs_with n (filter (λ m. contrary node (node_at nodes m)) (j ∷ []))) zero_plus
        ∙ ap (λ ps. pairs_with n (filter (λ m. contrary node (node_at nodes m)) (range_with_len 0 i)) ++ ps) (last b h)

pub opposites_more : (nodes : List Node) (n : ℕ) (xs new : List (ℕ × ℕ)) → xs ≡ flat_map (λ n. pairs_with n (negations nodes (node_at nodes n))) (range_with_len 0 n)
    → new ≡ xs ++ pairs_with n (negations nodes (node_at nodes n)) → new ≡ flat_map (λ n. pairs_with n (negations nodes (node_at nodes n))) (range_with_len 0 (n + 1))
opposites_more nodes n xs new e k =
    k ∙ ap (λ ys. ys ++ pairs_with n (negations nodes (node_at nodes n))) e
    ∙ sym (ap pairs_of (range_split 0 n 1)
    ∙ flat_map-append (λ n. pairs_with n (negations nodes (node_at nodes n))) (range_with_len 0 n) ((0 + n) ∷ [])
    ∙ ap (λ j. pairs_of (range_with_len 0 n) ++ pairs_of (j ∷ [])) zero_plus
    ∙ ap (λ ps. pairs_of (range_with_len 0 n) ++ ps) (append-nil (pairs_with n (negations nodes (node_at nodes n)))))
  where
    pairs_of : List ℕ → List (ℕ × ℕ)
    pairs_of ns = flat_map (λ n. pairs_with n (negations nodes (node_at nodes n))) ns

    zero_plus : 0 + n ≡ n
    zero_plus = omega arith

not_self : (node : Node) → contrary node node ≡ false
not_self True = refl
not_self False = refl
not_self (Lit x true) = refl
not_self (Lit x false) = refl
not_self (And f g) = refl
not_self (Or f g) = refl
not_self (Next f) = refl
not_self (Until f g) = refl
not_self (Release f g) = refl

pair_row : (nodes : List Node) (n s m : ℕ) → n < 512 → s + m ≤ 512 → All IsPair (pairs_with n (filter (λ m. contrary (node_at nodes n) (node_at nodes m)) (range_with_len s m)))
pair_row nodes n s zero l k = All-nil IsPair
pair_row nodes n s (suc m) l k = go (contrary (node_at nodes n) (node_at nodes s)) refl (pair_row nodes n (s + 1) m l (omega arith))
  where
    go : (b : Bool) → contrary (node_at nodes n) (node_at nodes s) ≡ b
        → All IsPair (pairs_with n (filter (λ m. contrary (node_at nodes n) (node_at nodes m)) (range_with_len (s + 1) m)))
        → All IsPair (pairs_with n (cond b (s ∷ filter (λ m. contrary (node_at nodes n) (node_at nodes m)) (range_with_len (s + 1) m)) (filter (λ m. contrary (node_at nodes n) (node_at nodes m)) (range_with_len (s + 1) m))))
    go true e rec =
        All-cons IsPair (n, s) _ (l, omega arith, λ (i : n ≡ s). false≢true (sym (ap (λ j. contrary (node_at nodes n) (node_at nodes j)) (sym i) ∙ not_self (node_at nodes n)) ∙ e)) rec
    go false e rec = rec

pairs_from : (nodes : List Node) (s m : ℕ) → length nodes ≤ 512 → s + m ≤ 512 → ArePairs (flat_map (λ n. pairs_with n (negations nodes (node_at nodes n))) (range_with_len s m))
pairs_from nodes s zero h l = All-nil IsPair
pairs_from nodes s (suc m) h l =
    All-append IsPair (pairs_with s (negations nodes (node_at nodes s))) _ (pair_row nodes s 0 (length nodes) (omega arith) (omega arith))
    (pairs_from nodes (s + 1) m h (omega arith))

pub opposite_pairs : (nodes : List Node) → length nodes ≤ 512 → ArePairs (opposites nodes)
opposite_pairs nodes h = pairs_from nodes 0 (length nodes) h (omega arith)

-- ---- results

pub list_consistent : {T : Type 0} (pairs : List (ℕ × ℕ)) (row : Row) (now : T → List BitCover) (r : Result T CoverError) → IsRowConsistent pairs row
    → IfOk r (λ list. row ≡ Some (covers_of (now list))) → IfOk r (λ list. AreConsistent pairs (now list))
list_consistent pairs row now (Ok list) h e = row_consistent pairs row (now list) h e
list_consistent pairs row now (Err x) h e = tt

pub until_consistent : (pairs : List (ℕ × ℕ)) (n : ℕ) (fs gs raw : List BitCover) → AreConsistent pairs fs → AreConsistent pairs gs
    → covers_of raw ≡ until_raw n (covers_of fs) (covers_of gs) → AreConsistent pairs raw
until_consistent pairs n fs gs raw h k e =
    consistent_covers pairs raw
    (subst (All (λ c. consistent pairs c.literals ≡ true)) (sym e)
    (All-append (λ c. consistent pairs c.literals ≡ true) (covers_of gs) _ (covers_consistent pairs gs k) (put pairs (covers_of fs) (covers_consistent pairs fs h))))
  where
    put : (pairs : List (ℕ × ℕ)) (xs : List CoverSets) → All (λ c. consistent pairs c.literals ≡ true) xs
        → All (λ c. consistent pairs c.literals ≡ true) (products xs (only 0 (2 ^ n) (2 ^ n) ∷ []))
    put pairs [] h = All-nil (λ c. consistent pairs c.literals ≡ true)
    put pairs (x ∷ xs) h =
        All-cons (λ c. consistent pairs c.literals ≡ true) (both x (only 0 (2 ^ n) (2 ^ n))) _
        (ap (consistent pairs) (or_zero x.literals) ∙ All-head (λ c. consistent pairs c.literals ≡ true) x xs h)
        (put pairs xs (All-tail (λ c. consistent pairs c.literals ≡ true) x xs h))

pub set_more : (numbers : List ℕ) (i n d : ℕ) (set new : ℕ) → i < length numbers → set ≡ set_from (take i numbers) → n ≡ get_or numbers i d → new ≡ bit_or set (2 ^ n)
    → new ≡ set_from (take (i + 1) numbers)
set_more numbers i n d set new l h e k =
    k ∙ ap (λ s. bit_or s (2 ^ n)) h ∙ ap (λ m. bit_or (set_from (take i numbers)) (2 ^ m)) e
    ∙ sym (ap set_from (take_more numbers i d l) ∙ pushed (take i numbers) (get_or numbers i d) 0)
  where
    pushed : (xs : List ℕ) (x s : ℕ) → fold (λ set n. bit_or set (2 ^ n)) s (xs ++ x ∷ []) ≡ bit_or (fold (λ set n. bit_or set (2 ^ n)) s xs) (2 ^ x)
    pushed [] x s = refl
    pushed (y ∷ ys) x s = pushed ys x (bit_or s (2 ^ y))

pub pairs_end : (nodes : List Node) (xs : List (ℕ × ℕ)) (n : ℕ) → length nodes ≤ 512 → n ≡ length nodes → xs ≡ flat_map (λ n. pairs_with n (negations nodes (node_at nodes n))) (range_with_len 0 n) → ArePairs xs
pairs_end nodes xs n h e k = subst ArePairs (sym (k ∙ ap (λ m. flat_map (λ n. pairs_with n (negations nodes (node_at nodes n))) (range_with_len 0 m)) e)) (opposite_pairs nodes h)

pub one_row : (pairs : List (ℕ × ℕ)) (raw : Row) (c : CoverSets) (list : List BitCover) → raw ≡ Some (c ∷ []) → consistent pairs c.literals ≡ true → covers_of list ≡ c ∷ [] → reduced_row pairs raw ≡ Some (covers_of list)
one_row pairs raw c list e h k = ap (reduced_row pairs) e ∙ row_one pairs c h ∙ ap Some (sym k)

pub one_list : (pairs : List (ℕ × ℕ)) (list : List BitCover) (c : BitCover) → list ≡ c ∷ [] → consistent pairs (set_of c.literals) ≡ true → AreConsistent pairs list
one_list pairs list c e h = subst (AreConsistent pairs) (sym e) (one_consistent pairs c h)

pub rows_step : (pairs : List (ℕ × ℕ)) (rows now new : List Row) (nodes : List Node) (i : ℕ) (all : List Row) (row : Row) (d : Node) → i < length nodes → length rows ≡ i → All (IsRowConsistent pairs) rows
    → rows_after pairs rows (drop i nodes) ≡ all → now ≡ rows → row ≡ reduced_row pairs (raw_of now (length now) (get_or nodes i d)) → IsRowConsistent pairs row → new ≡ rows ++ row ∷ []
    → (length new ≡ i + 1) × All (IsRowConsistent pairs) new × (rows_after pairs new (drop (i + 1) nodes) ≡ all)
rows_step pairs rows now new nodes i all row d l k c h s e f n = (
  ap length n ∙ length_push rows row ∙ ap (λ m. m + 1) k,
  subst (All (IsRowConsistent pairs)) (sym n) (All-push (IsRowConsistent pairs) rows row c f),
  rows_more pairs rows new nodes i all d row l k h (e ∙ ap (λ rs. reduced_row pairs (raw_of rs (length rs) (get_or nodes i d))) s) n,
)

pub release_consistent : (pairs : List (ℕ × ℕ)) (fs ends one two : List BitCover) (c : BitCover) → AreConsistent pairs fs → (m : ℕ) → sets_of c ≡ only 0 m 0
    → ends ≡ fs ++ one → one ≡ two → two ≡ c ∷ [] → AreConsistent pairs ends
release_consistent pairs fs ends one two c h m k e f g =
    subst (AreConsistent pairs) (sym (e ∙ ap (λ xs. fs ++ xs) (f ∙ g)))
    (All-append (λ (c : BitCover). consistent pairs (set_of c.literals) ≡ true) fs (c ∷ []) h
    (one_consistent pairs c (ap (λ (s : CoverSets). consistent pairs s.literals) k ∙ consistent_none pairs)))

abbrev pub made : List (ℕ × ℕ) → List Row → TableData
made pairs rows = record { opposites = pairs; rows = rows }

pub table_made : (nodes : List Node) (pairs : List (ℕ × ℕ)) (rows : List Row) → pairs ≡ opposites nodes → rows ≡ rows_after pairs [] nodes → made pairs rows ≡ table_of nodes
unfolding rows_of
table_made nodes pairs rows e f = ap (λ rs. made pairs rs) f ∙ ap (λ ps. made ps (rows_after ps [] nodes)) e

pub no_member : (pairs : List (ℕ × ℕ)) (set : ℕ) (rows : List Row) (list : List BitCover) → covers_of list ≡ no_demand ∷ []
    → (with_members pairs set 0 rows (Some (ascending (covers_of list))) ≡ set_row pairs rows set) × AreDifferent (covers_of list)
unfolding set_row
no_member pairs set rows list e = (ap (λ cs. with_members pairs set 0 rows (Some (ascending cs))) e, subst AreDifferent (sym e) (λ m. absurd (omega (arith, m.1)), tt))

pub row_none_told : {T : Type 0} (r : Result T CoverError) (e : CoverError) (P : Type 0) → IsErrAnd r (λ x. x ≡ e) → P → IfErr r (λ x. x ≡ TooWide → P)
row_none_told r e P h p = err_told r e P h (λ _. p)

pub times_is : (pairs : List (ℕ × ℕ)) (row : Row) (list xs : List CoverSets) → row ≡ Some xs → times pairs (Some list) row ≡ narrow (reduced pairs (products list xs))
times_is pairs row list xs e = ap (times pairs (Some list)) e

times_list : (pairs : List (ℕ × ℕ)) (rows : List Row) (n : ℕ) (list now xs : List CoverSets) → row_at rows n ≡ Some xs → reduced pairs (products list xs) ≡ reduced pairs (products now xs)
    → times pairs (Some list) (row_at rows n) ≡ narrow (reduced pairs (products now xs))
times_list pairs rows n list now xs e f = times_is pairs (row_at rows n) list xs e ∙ ap narrow f

pub set_step : (pairs : List (ℕ × ℕ)) (set n : ℕ) (rows : List Row) (list now xs : List CoverSets) (new all : Row) → n < length rows → has set n ≡ true
    → with_members pairs set n (drop n rows) (Some list) ≡ all → row_at rows n ≡ Some xs → reduced pairs (products list xs) ≡ reduced pairs (products now xs) → narrow (reduced pairs (products now xs)) ≡ new
    → with_members pairs set (n + 1) (drop (n + 1) rows) new ≡ all
set_step pairs set n rows list now xs new all l t h e f g = member_more pairs set n rows (Some list) new all None l t h (times_list pairs rows n list now xs e f ∙ g)

pub set_wide : (pairs : List (ℕ × ℕ)) (set n : ℕ) (rows : List Row) (list now xs : List CoverSets) (all : Row) → n < length rows → has set n ≡ true
    → with_members pairs set n (drop n rows) (Some list) ≡ all → row_at rows n ≡ Some xs → reduced pairs (products list xs) ≡ reduced pairs (products now xs) → narrow (reduced pairs (products now xs)) ≡ None → all ≡ None
set_wide pairs set n rows list now xs all l t h e f g = member_wide pairs set n rows (Some list) all None l t h (times_list pairs rows n list now xs e f ∙ g)
