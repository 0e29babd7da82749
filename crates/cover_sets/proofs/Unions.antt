-- The consistent unions of two lists of covers.
use Rattle.std.proofs.Common.{◌≡◌, ℕ, ◌+◌, ◌<◌, ◌≤◌, Bool, true, false, not, ◌||◌, ◌⊎◌, inl, inr, cond, nat_eq, Some, None, Result, Ok, Err, List, [], ◌∷◌, ◌++◌, length, map, get_or, take, drop, refl, sym, ap, ◌∙◌, subst, arith}
use Rattle.std.specs.Prelude.{bit_and, All}
use Rattle.std.specs.List.{filter, list_any}
use Rattle.std.specs.List.Sorted.{IsPermutation, IsNonDecreasingBy, IsSorted}
use Rattle.std.specs.Ordering.{is_lt}
use Rattle.std.specs.Result.{IfErr, IsErrAnd}
use Rattle.cover_sets.specs.declared.cover_lists.CoverError.{CoverError}
use Rattle.cover_sets.specs.declared.cover_lists.CoverError.TheVariants.{TooWide}
use Rattle.std.proofs.lemmas.Bool.{le-leb, lt-leb}
use Rattle.std.proofs.lemmas.List.{append-nil, append_assoc, drop_all, drop_more, get_or-map, length-map, map_more, map_push, take_all, take_more}
use Rattle.std.proofs.lemmas.List.Concat.{flat_map-append}
use Rattle.std.proofs.lemmas.List.Elements.{All-append, All-filter, All-head, All-map, All-nil, All-push, All-tail, filter-append}
use Rattle.std.proofs.lemmas.List.Sorted.{IsPermutation-map, IsPermutation-sym}
use Rattle.std.proofs.lemmas.Nat.{or_lt}
use Rattle.cover_sets.specs.declared.bit_covers.BitCover.{BitCover}
use Rattle.cover_sets.specs.declared.reductions.Union.{Union}
use Rattle.cover_sets.specs.Bits.{set_of, sets_of, signature_of, size_of}
use Rattle.cover_sets.specs.Covers.{CoverSets, ascending, both, consistent, cover_cmp, narrow, no_demand, part_of, products, reduced}
use Rattle.cover_sets.specs.Union.{AreBySize, AreConsistent, AreDifferent, AreUnions, HaveSizes, all_consistent, clashes, covers_of, kept_after, kept_from, union_at, unions_with}
use Rattle.cover_sets.proofs.Consistent.{consistent_union}
use Rattle.cover_sets.proofs.Members.{AreApart, IsIn, IsAscending, Keeps, all_in, apart_different, apart_permuted, different_apart, ascending_ascends, ascending_in, ascending_length, by_size, in_all, in_at, in_ascending, in_permuted, filter_from, kept_grows, kept_reduced, keeps_more, same_ascending, sorted_ascends}
use Rattle.cover_sets.proofs.Parts.{Narrow, kept_narrow, part_signature}

-- ---- the search for a part

pub drop_covers : (covers : List BitCover) (at : ℕ) (d : BitCover) → at < length covers → drop at (covers_of covers) ≡ sets_of (get_or covers at d) ∷ drop (at + 1) (covers_of covers)
drop_covers covers at d l =
    drop_more (covers_of covers) at (sets_of d) (omega (arith, length-map covers sets_of))
    ∙ ap (λ x. x ∷ drop (at + 1) (covers_of covers)) (get_or-map sets_of covers at d (sets_of d) l)

any_step : (b c all : Bool) → (b || c) ≡ all → b ≡ false → c ≡ all
any_step b c all h k = sym (ap (λ t. t || c) k) ∙ h

any_found : (b c all : Bool) → (b || c) ≡ all → b ≡ true → true ≡ all
any_found b c all h k = sym (ap (λ t. t || c) k) ∙ h

pub part_passed : (covers : List BitCover) (at : ℕ) (c d : BitCover) (all : Bool) → at < length covers
    → list_any (λ k. part_of k (sets_of c)) (drop at (covers_of covers)) ≡ all → part_of (sets_of (get_or covers at d)) (sets_of c) ≡ false
    → list_any (λ k. part_of k (sets_of c)) (drop (at + 1) (covers_of covers)) ≡ all
part_passed covers at c d all l h n = any_step _ _ all (sym (ap (list_any (λ k. part_of k (sets_of c))) (drop_covers covers at d l)) ∙ h) n

pub part_found : (covers : List BitCover) (at : ℕ) (c d : BitCover) (all : Bool) → at < length covers
    → list_any (λ k. part_of k (sets_of c)) (drop at (covers_of covers)) ≡ all → part_of (sets_of (get_or covers at d)) (sets_of c) ≡ true → true ≡ all
part_found covers at c d all l h y = any_found _ _ all (sym (ap (list_any (λ k. part_of k (sets_of c))) (drop_covers covers at d l)) ∙ h) y

pub part_nowhere : (covers : List BitCover) (at : ℕ) (c : BitCover) (all : Bool) → length covers ≤ at
    → list_any (λ k. part_of k (sets_of c)) (drop at (covers_of covers)) ≡ all → false ≡ all
part_nowhere covers at c all l h = sym (ap (list_any (λ k. part_of k (sets_of c))) (drop_all at (covers_of covers) (omega (arith, length-map covers sets_of)))) ∙ h

-- a cover whose signature has too much is no part
pub no_part : (covers : List BitCover) (signatures : List ℕ) (at own signature : ℕ) (c d : BitCover) → signatures ≡ map signature_of covers → at < length covers
    → own ≡ get_or signatures at 0 → signature ≡ signature_of c → (bit_and own signature ≡ own → ⊥) → part_of (sets_of (get_or covers at d)) (sets_of c) ≡ false
no_part covers signatures at own signature c d e l o s n = go (part_of (sets_of (get_or covers at d)) (sets_of c)) refl
  where
    is : own ≡ signature_of (get_or covers at d)
    is = o ∙ ap (λ xs. get_or xs at 0) e ∙ get_or-map signature_of covers at d 0 l

    go : (b : Bool) → part_of (sets_of (get_or covers at d)) (sets_of c) ≡ b → b ≡ false
    go true h = absurd (n (ap (λ x. bit_and x signature) is ∙ ap (bit_and (signature_of (get_or covers at d))) s ∙ part_signature (get_or covers at d) c h ∙ sym is))
    go false h = refl

-- ---- the unions with one cover

filter_one : (p : CoverSets → Bool) (c : CoverSets) (b : Bool) → p c ≡ b → filter p (c ∷ []) ≡ cond b (c ∷ []) []
filter_one p c b h = ap (λ t. cond t (c ∷ []) []) h

with_more : (pairs : List (ℕ × ℕ)) (x : CoverSets) (ys : List CoverSets) (i : ℕ) (d : CoverSets) (b : Bool) → i < length ys → consistent pairs (both x (get_or ys i d)).literals ≡ b
    → all_consistent pairs (map (both x) (take (i + 1) ys)) ≡ all_consistent pairs (map (both x) (take i ys)) ++ cond b (both x (get_or ys i d) ∷ []) []
with_more pairs x ys i d b l h =
    ap (all_consistent pairs) (map_more (both x) ys i d l)
    ∙ filter-append (λ c. consistent pairs c.literals) (map (both x) (take i ys)) (both x (get_or ys i d) ∷ [])
    ∙ ap (λ cs. all_consistent pairs (map (both x) (take i ys)) ++ cs) (filter_one (λ c. consistent pairs c.literals) (both x (get_or ys i d)) b h)

pub read_cover : (xs : List BitCover) (i : ℕ) (x : BitCover) → i < length xs → x ≡ get_or xs i x → get_or (covers_of xs) i no_demand ≡ sets_of x
read_cover xs i x l e = get_or-map sets_of xs i x no_demand l ∙ ap sets_of (sym e)

not_not : (b : Bool) → not (not b) ≡ b
not_not true = refl
not_not false = refl

pub union_is : (xs ys : List BitCover) (left right : ℕ) (x y : BitCover) → left < length xs → right < length ys → x ≡ get_or xs left x → y ≡ get_or ys right y
    → both (get_or (covers_of xs) left no_demand) (get_or (covers_of ys) right no_demand) ≡ both (sets_of x) (sets_of y)
union_is xs ys left right x y l k e f =
    ap (λ a. both a (get_or (covers_of ys) right no_demand)) (read_cover xs left x l e) ∙ ap (both (sets_of x)) (read_cover ys right y k f)

pub meets_tells : (pairs : List (ℕ × ℕ)) (xs ys : List BitCover) (left right : ℕ) (x y : BitCover) (against : ℕ) (r : Bool) → AreConsistent pairs xs → AreConsistent pairs ys
    → left < length xs → right < length ys → x ≡ get_or xs left x → y ≡ get_or ys right y
    → ((z : ℕ) → nat_eq (bit_and against z) 0 ≡ not (clashes pairs (set_of x.literals) z)) → r ≡ not (nat_eq (bit_and against (set_of y.literals)) 0)
    → consistent pairs (both (get_or (covers_of xs) left no_demand) (get_or (covers_of ys) right no_demand)).literals ≡ not r
meets_tells pairs xs ys left right x y against r p q l k e f h m =
    ap (λ (c : CoverSets). consistent pairs c.literals) (union_is xs ys left right x y l k e f)
    ∙ consistent_union pairs (set_of x.literals) (set_of y.literals)
    (subst (λ (c : BitCover). consistent pairs (set_of c.literals) ≡ true) (sym e) (p left x l))
    (subst (λ (c : BitCover). consistent pairs (set_of c.literals) ≡ true) (sym f) (q right y k))
    ∙ sym (ap not (m ∙ ap not (h (set_of y.literals)) ∙ not_not (clashes pairs (set_of x.literals) (set_of y.literals))))

-- the unions before, and those with the first i covers of the other list
pub record Adding (pairs : List (ℕ × ℕ)) (xs ys : List CoverSets) (left : ℕ) (before unions : List Union) (i : ℕ) : Type 0 where
  pub places : AreUnions (length xs) (length ys) unions
  pub sizes : HaveSizes xs ys unions
  pub more : map (union_at xs ys) unions ≡ map (union_at xs ys) before ++ all_consistent pairs (map (both (get_or xs left no_demand)) (take i ys))

pub adding_none : (pairs : List (ℕ × ℕ)) (xs ys : List CoverSets) (left : ℕ) (before : List Union) → AreUnions (length xs) (length ys) before → HaveSizes xs ys before
    → Adding pairs xs ys left before before 0
adding_none pairs xs ys left before p s = record { places = p; sizes = s; more = sym (append-nil (map (union_at xs ys) before)) }

pub adding_no : (pairs : List (ℕ × ℕ)) (xs ys : List CoverSets) (left : ℕ) (before unions : List Union) (i : ℕ) → Adding pairs xs ys left before unions i → i < length ys
    → consistent pairs (both (get_or xs left no_demand) (get_or ys i no_demand)).literals ≡ false → Adding pairs xs ys left before unions (i + 1)
adding_no pairs xs ys left before unions i a l h = record {
  places = a.places;
  sizes = a.sizes;
  more =
      a.more
      ∙ ap (λ cs. map (union_at xs ys) before ++ cs)
      (sym (with_more pairs (get_or xs left no_demand) ys i no_demand false l h ∙ append-nil (all_consistent pairs (map (both (get_or xs left no_demand)) (take i ys)))));
}

pub adding_yes : (pairs : List (ℕ × ℕ)) (xs ys : List CoverSets) (left : ℕ) (before unions new : List Union) (i : ℕ) (u : Union) → Adding pairs xs ys left before unions i
    → left < length xs → i < length ys → u.left ≡ left → u.right ≡ i → u.size ≡ size_of (both (get_or xs left no_demand) (get_or ys i no_demand))
    → consistent pairs (both (get_or xs left no_demand) (get_or ys i no_demand)).literals ≡ true → new ≡ unions ++ u ∷ [] → Adding pairs xs ys left before new (i + 1)
adding_yes pairs xs ys left before unions new i u a l k e f s h n = record {
  places = subst (AreUnions (length xs) (length ys)) (sym n) (All-push (λ u. (u.left < length xs) × (u.right < length ys)) unions u a.places (omega arith, omega arith));
  sizes = subst (HaveSizes xs ys) (sym n) (All-push (λ u. u.size ≡ size_of (union_at xs ys u)) unions u a.sizes (s ∙ ap size_of (sym is)));
  more =
      ap (map (union_at xs ys)) n
      ∙ map_push (union_at xs ys) unions u
      ∙ ap (λ cs. cs ++ union_at xs ys u ∷ []) a.more
      ∙ ap (λ c. (map (union_at xs ys) before ++ all_consistent pairs (map (both (get_or xs left no_demand)) (take i ys))) ++ c ∷ []) is
      ∙ append_assoc (map (union_at xs ys) before) (all_consistent pairs (map (both (get_or xs left no_demand)) (take i ys))) (both (get_or xs left no_demand) (get_or ys i no_demand) ∷ [])
      ∙ ap (λ cs. map (union_at xs ys) before ++ cs) (sym (with_more pairs (get_or xs left no_demand) ys i no_demand true k h));
}
  where
    is : union_at xs ys u ≡ both (get_or xs left no_demand) (get_or ys i no_demand)
    is = ap (λ j. both (get_or xs j no_demand) (get_or ys u.right no_demand)) e ∙ ap (λ j. both (get_or xs left no_demand) (get_or ys j no_demand)) f

pub adding_all : (pairs : List (ℕ × ℕ)) (xs ys : List CoverSets) (left : ℕ) (before unions : List Union) (i : ℕ) → Adding pairs xs ys left before unions i → length ys ≤ i
    → map (union_at xs ys) unions ≡ map (union_at xs ys) before ++ unions_with pairs xs ys left
adding_all pairs xs ys left before unions i a l =
    a.more ∙ ap (λ zs. map (union_at xs ys) before ++ all_consistent pairs (map (both (get_or xs left no_demand)) zs)) (take_all i ys l)

-- ---- the unions with the first covers of the first list

pub with_next : (pairs : List (ℕ × ℕ)) (xs ys : List CoverSets) (left : ℕ) (old new : List CoverSets) → left < length xs → old ≡ all_consistent pairs (products (take left xs) ys)
    → new ≡ old ++ unions_with pairs xs ys left → new ≡ all_consistent pairs (products (take (left + 1) xs) ys)
with_next pairs xs ys left old new l h k =
    k
    ∙ ap (λ cs. cs ++ unions_with pairs xs ys left) h
    ∙ ap (λ cs. all_consistent pairs (products (take left xs) ys) ++ all_consistent pairs cs) (sym (append-nil (map (both (get_or xs left no_demand)) ys)))
    ∙ sym (filter-append (λ c. consistent pairs c.literals) (products (take left xs) ys) (products (get_or xs left no_demand ∷ []) ys))
    ∙ ap (all_consistent pairs) (sym (flat_map-append (λ x. map (both x) ys) (take left xs) (get_or xs left no_demand ∷ [])))
    ∙ ap (λ zs. all_consistent pairs (products zs ys)) (sym (take_more xs left no_demand l))

-- ---- the kept unions

narrow_both : (a b : CoverSets) → Narrow a → Narrow b → Narrow (both a b)
narrow_both a b n m = record {
  literals = or_lt 512 _ _ n.literals m.literals;
  next = or_lt 512 _ _ n.next m.next;
  postponed = or_lt 512 _ _ n.postponed m.postponed;
}

pub narrow_covers : (xs : List BitCover) → All Narrow (covers_of xs)
narrow_covers xs = All-map Narrow sets_of xs (λ k d l. kept_narrow (get_or xs k d))

narrow_row : (x : CoverSets) (ys : List CoverSets) → Narrow x → All Narrow ys → All Narrow (map (both x) ys)
narrow_row x ys n m = All-map Narrow (both x) ys (λ k d l. narrow_both x (get_or ys k d) n (m k d l))

pub narrow_products : (xs ys : List CoverSets) → All Narrow xs → All Narrow ys → All Narrow (products xs ys)
narrow_products [] ys n m = All-nil Narrow
narrow_products (x ∷ xs) ys n m = All-append Narrow (map (both x) ys) (products xs ys) (narrow_row x ys (All-head Narrow x xs n) m) (narrow_products xs ys (All-tail Narrow x xs n) m)

pub narrow_unions : (pairs : List (ℕ × ℕ)) (xs ys : List BitCover) → All Narrow (all_consistent pairs (products (covers_of xs) (covers_of ys)))
narrow_unions pairs xs ys =
    All-filter (λ c. consistent pairs c.literals) Narrow (products (covers_of xs) (covers_of ys))
    (narrow_products (covers_of xs) (covers_of ys) (narrow_covers xs) (narrow_covers ys))

pub kept_step : (kept us new : List CoverSets) (i : ℕ) (all : List CoverSets) (d : CoverSets) → i < length us → kept_from kept (drop i us) ≡ all
    → new ≡ kept_after kept (get_or us i d) → kept_from new (drop (i + 1) us) ≡ all
unfolding kept_from
kept_step kept us new i all d l h n = ap (λ k. kept_from k (drop (i + 1) us)) n ∙ sym (ap (kept_from kept) (drop_more us i d l)) ∙ h

pub kept_end : (kept us : List CoverSets) (i : ℕ) (all : List CoverSets) → length us ≤ i → kept_from kept (drop i us) ≡ all → kept ≡ all
unfolding kept_from
kept_end kept us i all l h = sym (ap (kept_from kept) (drop_all i us l)) ∙ h

nothing_kept : Keeps (λ _. ⊥) []
nothing_kept = record { from = λ c m. m; all = λ c p. absurd p; least = λ c k m. absurd m; once = tt }

pub all_keeps : (cs : List CoverSets) → AreBySize cs → Keeps (λ d. ⊥ ⊎ IsIn d cs) (kept_from [] cs)
all_keeps cs s = keeps_more (λ _. ⊥) [] cs nothing_kept (by_size cs s) (λ k d m. absurd m)

-- what is sorted by the sets of its covers
sorted_sets : (list : List BitCover) → IsSorted (λ a b. cover_cmp (sets_of a) (sets_of b)) list → IsSorted cover_cmp (covers_of list)
sorted_sets [] s = λ k d l h. absurd (omega arith)
sorted_sets (b ∷ bs) s = λ k d l h.
    let e : length (covers_of (b ∷ bs)) ≡ length (b ∷ bs) = length-map (b ∷ bs) sets_of in
    subst (λ x. is_lt (cover_cmp x (get_or (covers_of (b ∷ bs)) k d)) ≡ false) (sym (get_or-map sets_of (b ∷ bs) (k + 1) b d (omega arith)))
    (subst (λ x. is_lt (cover_cmp (sets_of (get_or (b ∷ bs) (k + 1) b)) x) ≡ false) (sym (get_or-map sets_of (b ∷ bs) k b d (omega arith)))
    (s k b l (omega arith)))

pub row_narrow : (list : List CoverSets) → length list ≤ 1024 → narrow list ≡ Some list
row_narrow list l = ap (λ b. cond b (Some list) None) (le-leb (length list) 1024 l)

pub row_wide : (list : List CoverSets) → 1024 < length list → narrow list ≡ None
row_wide list l = ap (λ b. cond b (Some list) None) (lt-leb (length list) 1024 l)

covers_long : (list : List BitCover) (i : ℕ) → i < length list → i < length (covers_of list)
covers_long list i h = let e : length (covers_of list) ≡ length list = length-map list sets_of in omega arith

pub same_length : (covers : List BitCover) (items : List ℕ) → items ≡ map signature_of covers → length items ≡ length covers
same_length covers items e = ap length e ∙ length-map covers signature_of

pub by_sizes : (xs ys : List CoverSets) (us : List Union) → IsNonDecreasingBy (λ (u : Union). u.size) us → HaveSizes xs ys us → AreBySize (map (union_at xs ys) us)
by_sizes xs ys [] n h = λ i j d l k. absurd (omega arith)
by_sizes xs ys (u ∷ us) n h = λ i j d l k.
    let e : length (map (union_at xs ys) (u ∷ us)) ≡ length (u ∷ us) = length-map (u ∷ us) (union_at xs ys) in
    let p : size_of (get_or (map (union_at xs ys) (u ∷ us)) i d) ≡ (get_or (u ∷ us) i u).size = ap size_of (get_or-map (union_at xs ys) (u ∷ us) i u d (omega arith)) ∙ sym (h i u (omega arith)) in
    let q : size_of (get_or (map (union_at xs ys) (u ∷ us)) j d) ≡ (get_or (u ∷ us) j u).size = ap size_of (get_or-map (union_at xs ys) (u ∷ us) j u d (omega arith)) ∙ sym (h j u (omega arith)) in
    let r : (get_or (u ∷ us) i u).size ≤ (get_or (u ∷ us) j u).size = n i j u l (omega arith) in
    omega arith

pub all_unions : (pairs : List (ℕ × ℕ)) (xs ys us new : List CoverSets) (left : ℕ) → length xs ≤ left → us ≡ all_consistent pairs (products (take left xs) ys) → IsPermutation us new
    → IsPermutation (all_consistent pairs (products xs ys)) new
all_unions pairs xs ys us new left l e p = subst (λ zs. IsPermutation zs new) (e ∙ ap (λ zs. all_consistent pairs (products zs ys)) (take_all left xs l)) p

module _ (pairs : List (ℕ × ℕ)) (xs ys : List BitCover) (us : List CoverSets)
    (perm : IsPermutation (all_consistent pairs (products (covers_of xs) (covers_of ys))) us) (size : AreBySize us) where
  to_raw : (c : CoverSets) → IsIn c us → IsIn c (all_consistent pairs (products (covers_of xs) (covers_of ys)))
  to_raw c m = in_permuted us _ c (IsPermutation-sym _ us perm) m

  reduced_is : (list : List CoverSets) → IsAscending list → ((c : CoverSets) → IsIn c (kept_from [] us) → IsIn c list) → ((c : CoverSets) → IsIn c list → IsIn c (kept_from [] us))
      → reduced pairs (products (covers_of xs) (covers_of ys)) ≡ list
  unfolding reduced
  reduced_is list a f g =
      kept_reduced us _ (kept_from [] us) list to_raw (λ c m. in_permuted _ us c perm m) (narrow_unions pairs xs ys) (all_keeps us size) a f g

  narrow_kept : All Narrow (kept_from [] us)
  narrow_kept = all_in Narrow (kept_from [] us) (λ c m. in_all Narrow _ c (narrow_unions pairs xs ys) (to_raw c (only_in c ((all_keeps us size).from c m))))
    where
      only_in : (d : CoverSets) → ⊥ ⊎ IsIn d us → IsIn d us
      only_in d (inl n) = absurd n
      only_in d (inr n) = n

  reduced_kept : reduced pairs (products (covers_of xs) (covers_of ys)) ≡ ascending (kept_from [] us)
  reduced_kept =
      reduced_is (ascending (kept_from [] us)) (ascending_ascends (kept_from [] us)) (λ c m. in_ascending (kept_from [] us) narrow_kept c m) (λ c m. ascending_in (kept_from [] us) c m)

  kept_length : length (ascending (kept_from [] us)) ≡ length (kept_from [] us)
  kept_length = ascending_length (kept_from [] us) narrow_kept (all_keeps us size).once

  pub product_wide : 1024 < length (kept_from [] us) → narrow (reduced pairs (products (covers_of xs) (covers_of ys))) ≡ None
  product_wide l = ap narrow reduced_kept ∙ row_wide (ascending (kept_from [] us)) (omega (arith, kept_length))

  pub product_found : (kept : List BitCover) → covers_of kept ≡ kept_from [] us → length kept ≤ 1024
      → (narrow (reduced pairs (products (covers_of xs) (covers_of ys))) ≡ Some (ascending (covers_of kept))) × AreDifferent (covers_of kept) × AreConsistent pairs kept
  product_found kept k l = (
    ap narrow reduced_kept ∙ row_narrow (ascending (kept_from [] us)) (omega (arith, kept_length, ap length k, length-map kept sets_of)) ∙ ap (λ cs. Some (ascending cs)) (sym k),
    apart_different (covers_of kept) (subst AreApart (sym k) (all_keeps us size).once),
    λ i d h. (filter_from (λ c. consistent pairs c.literals) (products (covers_of xs) (covers_of ys)) (sets_of (get_or kept i d)) (to_raw _ (inner (sets_of (get_or kept i d)) (subst (λ x. IsIn x (covers_of kept)) (get_or-map sets_of kept i d (sets_of d) h) (in_at (covers_of kept) i (sets_of d) (omega (arith, length-map kept sets_of))))))).1,
  )
    where
      only_in : (d : CoverSets) → ⊥ ⊎ IsIn d us → IsIn d us
      only_in d (inl n) = absurd n
      only_in d (inr n) = n

      inner : (c : CoverSets) → IsIn c (covers_of kept) → IsIn c us
      inner c m = only_in c ((all_keeps us size).from c (subst (IsIn c) k m))

-- the covers that a sort gives are those in their order
pub sorted_is : (old new : List BitCover) → AreDifferent (covers_of old) → IsPermutation old new → IsSorted (λ a b. cover_cmp (sets_of a) (sets_of b)) new
    → covers_of new ≡ ascending (covers_of old)
sorted_is old new d p s =
    same_ascending (covers_of new) (ascending (covers_of old))
    (sorted_ascends (covers_of new) (narrow_covers new) (apart_permuted (covers_of old) (covers_of new) moved (different_apart (covers_of old) d)) (sorted_sets new s))
    (ascending_ascends (covers_of old))
    (λ c m. in_ascending (covers_of old) (narrow_covers old) c (in_permuted (covers_of new) (covers_of old) c (IsPermutation-sym (covers_of old) (covers_of new) moved) m))
    (λ c m. in_permuted (covers_of old) (covers_of new) c moved (ascending_in (covers_of old) c m))
  where
    moved : IsPermutation (covers_of old) (covers_of new)
    moved = IsPermutation-map sets_of old new p

-- the next union
pub union_next : (xs ys : List BitCover) (us : List Union) (i : ℕ) (x y : BitCover) (cover : CoverSets) (d : Union) → i < length us → AreUnions (length xs) (length ys) us
    → x ≡ get_or xs (get_or us i d).left x → y ≡ get_or ys (get_or us i d).right y → cover ≡ both (sets_of x) (sets_of y)
    → cover ≡ get_or (map (union_at (covers_of xs) (covers_of ys)) us) i (union_at (covers_of xs) (covers_of ys) d)
union_next xs ys us i x y cover d l p e f is =
    is
    ∙ sym (get_or-map (union_at (covers_of xs) (covers_of ys)) us i d (union_at (covers_of xs) (covers_of ys) d) l
    ∙ union_is xs ys (get_or us i d).left (get_or us i d).right x y (p i d l).0 (p i d l).1 e f)

-- the next union is offered
pub union_kept : (xs ys : List BitCover) (us : List Union) (kept new : List BitCover) (i : ℕ) (all : List CoverSets) (x y : BitCover) (cover : CoverSets) (d : Union) → i < length us
    → AreUnions (length xs) (length ys) us
    → kept_from (covers_of kept) (drop i (map (union_at (covers_of xs) (covers_of ys)) us)) ≡ all
    → x ≡ get_or xs (get_or us i d).left x → y ≡ get_or ys (get_or us i d).right y → cover ≡ both (sets_of x) (sets_of y) → covers_of new ≡ kept_after (covers_of kept) cover
    → kept_from (covers_of new) (drop (i + 1) (map (union_at (covers_of xs) (covers_of ys)) us)) ≡ all
union_kept xs ys us kept new i all x y cover d l p h e f is n =
    kept_step (covers_of kept) (map (union_at (covers_of xs) (covers_of ys)) us) (covers_of new) i all (union_at (covers_of xs) (covers_of ys) d)
    (omega (arith, length-map us (union_at (covers_of xs) (covers_of ys)))) h (n ∙ ap (kept_after (covers_of kept)) (union_next xs ys us i x y cover d l p e f is))

pub offer_wide : (xs ys : List BitCover) (us unions : List Union) (kept : List BitCover) (i : ℕ) (x y : BitCover) (cover : CoverSets) (d : Union) → i < length us
    → AreUnions (length xs) (length ys) us
    → kept_from (covers_of kept) (drop i (map (union_at (covers_of xs) (covers_of ys)) us)) ≡ kept_from [] (map (union_at (covers_of xs) (covers_of ys)) us)
    → x ≡ get_or xs (get_or us i d).left x → y ≡ get_or ys (get_or us i d).right y → cover ≡ both (sets_of x) (sets_of y) → us ≡ unions
    → 1024 < length (kept_after (covers_of kept) cover) → 1024 < length (kept_from [] (map (union_at (covers_of xs) (covers_of ys)) unions))
offer_wide xs ys us unions kept i x y cover d l p h e f is same wide =
    let all : List CoverSets = map (union_at (covers_of xs) (covers_of ys)) us in
    let more : kept_from (kept_after (covers_of kept) cover) (drop (i + 1) all) ≡ kept_from [] all =
    kept_step (covers_of kept) all (kept_after (covers_of kept) cover) i _ (union_at (covers_of xs) (covers_of ys) d) (omega (arith, length-map us (union_at (covers_of xs) (covers_of ys)))) h
    (ap (kept_after (covers_of kept)) (union_next xs ys us i x y cover d l p e f is)) in
    let grows : length (kept_after (covers_of kept) cover) ≤ length (kept_from (kept_after (covers_of kept) cover) (drop (i + 1) all)) = kept_grows (kept_after (covers_of kept) cover) (drop (i + 1) all) in
    let ends : length (kept_from (kept_after (covers_of kept) cover) (drop (i + 1) all)) ≡ length (kept_from [] (map (union_at (covers_of xs) (covers_of ys)) unions)) =
    ap length (more ∙ ap (λ vs. kept_from [] (map (union_at (covers_of xs) (covers_of ys)) vs)) same) in
    omega arith

pub err_told : {T : Type 0} (r : Result T CoverError) (e : CoverError) (P : Type 0) → IsErrAnd r (λ x. x ≡ e) → (e ≡ TooWide → P) → IfErr r (λ x. x ≡ TooWide → P)
err_told (Ok t) e P h k = tt
err_told (Err x) e P h k = λ i. k (sym h ∙ i)

pub all_kept : (xs ys : List BitCover) (us unions : List Union) (kept : List BitCover) (i : ℕ) → length us ≤ i
    → kept_from (covers_of kept) (drop i (map (union_at (covers_of xs) (covers_of ys)) us)) ≡ kept_from [] (map (union_at (covers_of xs) (covers_of ys)) us) → us ≡ unions
    → covers_of kept ≡ kept_from [] (map (union_at (covers_of xs) (covers_of ys)) unions)
all_kept xs ys us unions kept i l h e =
    kept_end (covers_of kept) (map (union_at (covers_of xs) (covers_of ys)) us) i _ (omega (arith, length-map us (union_at (covers_of xs) (covers_of ys)))) h
    ∙ ap (λ vs. kept_from [] (map (union_at (covers_of xs) (covers_of ys)) vs)) e
