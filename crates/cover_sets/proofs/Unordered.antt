-- Reduced lists of products don't depend on the order of the covers.
use Rattle.std.proofs.Common.{◌≡◌, ℕ, ◌⊎◌, inl, inr, List, [], ◌∷◌, map, refl, sym, ap, ◌∙◌, subst}
use Rattle.std.specs.List.{All, Contains}
use Rattle.cover_sets.specs.declared.bit_covers.BitCover.{BitCover}
use Rattle.cover_sets.specs.Covers.{CoverSets, ascending, both, products, reduced}
use Rattle.cover_sets.specs.Reduced.{IsReduced, Narrow}
use Rattle.cover_sets.specs.Union.{covers_of}
use Rattle.cover_sets.proofs.Members.{IsIn, ascending_in, contains_in, in_ascending, in_contains, in_either, in_left, in_right, narrow_ascending}
use Rattle.cover_sets.proofs.ReducedLists.{reduced_is_exact}
use Rattle.cover_sets.proofs.Unions.{narrow_covers, narrow_products}

reduced_members : (pairs : List (ℕ × ℕ)) (one two : List CoverSets) → All Narrow one → All Narrow two
    → ((c : CoverSets) → IsIn c one → IsIn c two) → ((c : CoverSets) → IsIn c two → IsIn c one) → reduced pairs one ≡ reduced pairs two
reduced_members pairs one two n m f g =
    let r : IsReduced pairs one (reduced pairs one) = (reduced_is_exact pairs one (reduced pairs one) n).1 refl in
    (reduced_is_exact pairs two (reduced pairs one) m).0 (record {
      from = λ c k. let h = r.from c k in (there c h.0, h.1);
      minimal = λ c d k h. r.minimal c d k (back d h);
      whole = λ c h. r.whole c (back c h);
      ascends = r.ascends;
    })
  where
    there : (c : CoverSets) → Contains one c → Contains two c
    there c k = contains_in two c (f c (in_contains one c k))

    back : (c : CoverSets) → Contains two c → Contains one c
    back c k = contains_in one c (g c (in_contains two c k))

-- ---- the members of products

product_from : (xs ys : List CoverSets) (c : CoverSets) → IsIn c (products xs ys) → (x : CoverSets) × IsIn x xs × IsIn c (map (both x) ys)
product_from [] ys c m = absurd m
product_from (x ∷ xs) ys c m = go (in_either (map (both x) ys) (products xs ys) c m) (λ k. product_from xs ys c k)
  where
    go : IsIn c (map (both x) ys) ⊎ IsIn c (products xs ys) → (IsIn c (products xs ys) → (z : CoverSets) × IsIn z xs × IsIn c (map (both z) ys))
        → (z : CoverSets) × IsIn z (x ∷ xs) × IsIn c (map (both z) ys)
    go (inl k) rec = (x, inl refl, k)
    go (inr k) rec = let r = rec k in (r.0, inr r.1, r.2)

product_to : (xs ys : List CoverSets) (x c : CoverSets) → IsIn x xs → IsIn c (map (both x) ys) → IsIn c (products xs ys)
product_to [] ys x c m k = absurd m
product_to (w ∷ xs) ys x c (inl e) k = in_left (map (both w) ys) (products xs ys) c (subst (λ z. IsIn c (map (both z) ys)) (sym e) k)
product_to (w ∷ xs) ys x c (inr m) k = in_right (map (both w) ys) (products xs ys) c (product_to xs ys x c m k)

products_members : (xs zs ys : List CoverSets) → ((x : CoverSets) → IsIn x xs → IsIn x zs) → (c : CoverSets) → IsIn c (products xs ys) → IsIn c (products zs ys)
products_members xs zs ys f c m = let p = product_from xs ys c m in product_to zs ys p.0 c (f p.0 p.1) p.2

-- the first list in any order
pub products_unordered : (pairs : List (ℕ × ℕ)) (old now row : List BitCover) → now ≡ old
    → reduced pairs (products (ascending (covers_of old)) (covers_of row)) ≡ reduced pairs (products (covers_of now) (covers_of row))
products_unordered pairs old now row e =
    reduced_members pairs (products (ascending xs) ys) (products xs ys) (narrow_products (ascending xs) ys (narrow_ascending xs (narrow_covers old)) (narrow_covers row))
    (narrow_products xs ys (narrow_covers old) (narrow_covers row)) (products_members (ascending xs) xs ys (λ x m. ascending_in xs x m))
    (products_members xs (ascending xs) ys (λ x m. in_ascending xs (narrow_covers old) x m))
    ∙ ap (λ cs. reduced pairs (products (covers_of cs) ys)) (sym e)
  where
    xs : List CoverSets
    xs = covers_of old

    ys : List CoverSets
    ys = covers_of row
