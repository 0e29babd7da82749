-- What the covers of formulas and of sets of them say of a lasso.
use Rattle.std.proofs.Common.{◌≡◌, ℕ, zero, suc, ◌+◌, ◌^◌, ◌<◌, ◌≤◌, ◌⊎◌, inl, inr, Bool, true, false, not, ◌&&◌, cond, nat_eq, nat_le, nat_lt, eqb, List, [], ◌∷◌, ◌++◌, length, map, get_or, Some, None, refl, sym, ap, ◌∙◌, subst, arith}
use Rattle.std.specs.Prelude.{bit_and, bit_or, All}
use Rattle.std.specs.Int.{bit_at}
use Rattle.std.specs.List.{filter, flat_map, list_any, range_with_len}
use Rattle.std.proofs.lemmas.Bool.{and_parts, both_ways, not-true, or_cases, eqb-true, eqb-false, ltb-true, ltb-false}
use Rattle.std.proofs.lemmas.List.{get_or_past}
use Rattle.std.proofs.lemmas.List.Elements.{All-append, All-cons, All-head, All-nil, All-tail}
use Rattle.std.proofs.lemmas.Nat.{or_lt, pow_below, pow_pos}
use Rattle.std.proofs.lemmas.Nat.Bits.{same_from_bits, bit_at_and, bit_at_or, bit_at-zero, bit_at-pow_same, bit_at-pow_other}
use Rattle.ltl_form.specs.declared.normals.Node.{Node}
use Rattle.ltl_form.specs.declared.normals.Node.TheVariants.{True, False, Lit, And, Or, Next, Until, Release}
use Rattle.ltl_form.specs.Normal.{IsNodeAt, IsNormal}
use Rattle.ltl_form.specs.Meaning.{release_at, signal_at, tree_holds}
use Rattle.ltl_form.specs.NodeTrees.{formula_at}
use Rattle.word_core.specs.Lasso.{LassoData}
use Rattle.cover_sets.specs.Covers.{CoverSets, Row, both, consistent, contrary, narrow, negations, no_demand, node_at, only, opposites, pairs_with, part_of, products, raw_of, reduced, reduced_row, release_raw, row_at, rows_of, set_row, times, until_raw, with_members, with_two}
use Rattle.cover_sets.specs.Numbers.{has, is_part}
use Rattle.cover_sets.specs.Reduced.{Narrow}
use Rattle.cover_sets.proofs.Members.{IsIn, all_in, in_all, in_either, in_left, in_right}
use Rattle.cover_sets.proofs.Orders.{no_bit, one_bit}
use Rattle.cover_sets.proofs.Parts.{is_is_part, part_is, part_self, part_trans, parts_of, part_from}
use Rattle.cover_sets.proofs.ReducedLists.{reduced_in, reduced_within}
use Rattle.tableau_nba.proofs.Lassos.{pos, release_open, until_waits}
use Rattle.tableau_nba.proofs.Rows.{row_is, rows_each, tree_by, tree_is}

-- ---- numbers in sets

pub has_union : (a b n : ℕ) → has (bit_or a b) n ≡ true → (has a n ≡ true) ⊎ (has b n ≡ true)
has_union a b n h = go (has a n) refl (has b n) refl
  where
    go : (x : Bool) → has a n ≡ x → (y : Bool) → has b n ≡ y → (has a n ≡ true) ⊎ (has b n ≡ true)
    go true e y f = inl e
    go false e true f = inr f
    go false e false f =
        let p : bit_at a n ≡ 0 = no_bit a n e in
        let q : bit_at b n ≡ 0 = no_bit b n f in
        let r : bit_at (bit_or a b) n ≡ 1 = one_bit (bit_or a b) n h in
        let s = bit_at_or a b n in
        absurd (omega arith)

pub has_part : (a b n : ℕ) → is_part a b ≡ true → has a n ≡ true → has b n ≡ true
has_part a b n h k = go (has b n) refl
  where
    go : (y : Bool) → has b n ≡ y → y ≡ true
    go true f = refl
    go false f =
        let p : bit_at a n ≡ 1 = one_bit a n k in
        let q : bit_at b n ≡ 0 = no_bit b n f in
        let r = bit_at_and a b n in
        let s : bit_at (bit_and a b) n ≡ bit_at a n = ap (λ x. bit_at x n) (part_is a b h) in
        absurd (omega arith)

pub has_none : (n : ℕ) → has 0 n ≡ true → ⊥
has_none n h = let p = one_bit 0 n h in let q = bit_at-zero n in omega arith

pub has_self : (n : ℕ) → has (2 ^ n) n ≡ true
has_self n = ap (λ b. nat_eq b 1) (bit_at-pow_same n)

pub has_only : (n m : ℕ) → has (2 ^ n) m ≡ true → m ≡ n
has_only n m h = go (eqb m n) refl
  where
    go : (b : Bool) → eqb m n ≡ b → m ≡ n
    go true e = eqb-true m n e
    go false e =
        let p = one_bit (2 ^ n) m h in
        let q = bit_at-pow_other n m (eqb-false m n e) in
        absurd (omega arith)

or_part_left : (a b c : ℕ) → is_part (bit_or a b) c ≡ true → is_part a c ≡ true
or_part_left a b c h =
    is_is_part a c (same_from_bits _ _ (λ i.
    let e : bit_at (bit_and (bit_or a b) c) i ≡ bit_at (bit_or a b) i = ap (λ x. bit_at x i) (part_is (bit_or a b) c h) in
    let f = bit_at_and (bit_or a b) c i in
    let g = bit_at_or a b i in
    let k = bit_at_and a c i in
    omega arith))

or_part_right : (a b c : ℕ) → is_part (bit_or a b) c ≡ true → is_part b c ≡ true
or_part_right a b c h =
    is_is_part b c (same_from_bits _ _ (λ i.
    let e : bit_at (bit_and (bit_or a b) c) i ≡ bit_at (bit_or a b) i = ap (λ x. bit_at x i) (part_is (bit_or a b) c h) in
    let f = bit_at_and (bit_or a b) c i in
    let g = bit_at_or a b i in
    let k = bit_at_and b c i in
    omega arith))

left_part : (x y c : CoverSets) → part_of (both x y) c ≡ true → part_of x c ≡ true
left_part x y c h =
    let p = parts_of (both x y) c h in
    part_from x c (record { literals = or_part_left _ _ _ p.literals; next = or_part_left _ _ _ p.next; postponed = or_part_left _ _ _ p.postponed })

right_part : (x y c : CoverSets) → part_of (both x y) c ≡ true → part_of y c ≡ true
right_part x y c h =
    let p = parts_of (both x y) c h in
    part_from y c (record { literals = or_part_right _ _ _ p.literals; next = or_part_right _ _ _ p.next; postponed = or_part_right _ _ _ p.postponed })

-- ---- members of products

mapped_from : (f : CoverSets → CoverSets) (ys : List CoverSets) (d : CoverSets) → IsIn d (map f ys) → (y : CoverSets) × IsIn y ys × (f y ≡ d)
mapped_from f [] d m = absurd m
mapped_from f (y ∷ ys) d (inl e) = (y, inl refl, e)
mapped_from f (y ∷ ys) d (inr m) = let r = mapped_from f ys d m in (r.0, inr r.1, r.2)

mapped_to : (f : CoverSets → CoverSets) (ys : List CoverSets) (y : CoverSets) → IsIn y ys → IsIn (f y) (map f ys)
mapped_to f [] y m = absurd m
mapped_to f (z ∷ zs) y (inl e) = inl (ap f e)
mapped_to f (z ∷ zs) y (inr m) = inr (mapped_to f zs y m)

pub product_from : (xs ys : List CoverSets) (d : CoverSets) → IsIn d (products xs ys) → (x : CoverSets) × (y : CoverSets) × IsIn x xs × IsIn y ys × (both x y ≡ d)
product_from [] ys d m = absurd m
product_from (x ∷ xs) ys d m = go (in_either (map (both x) ys) (products xs ys) d m) (λ k. product_from xs ys d k)
  where
    go : IsIn d (map (both x) ys) ⊎ IsIn d (products xs ys) → (IsIn d (products xs ys) → (x : CoverSets) × (y : CoverSets) × IsIn x xs × IsIn y ys × (both x y ≡ d))
        → (z : CoverSets) × (y : CoverSets) × IsIn z (x ∷ xs) × IsIn y ys × (both z y ≡ d)
    go (inl k) rec = let r = mapped_from (both x) ys d k in (x, r.0, inl refl, r.1, r.2)
    go (inr k) rec = let r = rec k in (r.0, r.1, inr r.2, r.3, r.4)

pub product_to : (xs ys : List CoverSets) (x y : CoverSets) → IsIn x xs → IsIn y ys → IsIn (both x y) (products xs ys)
product_to [] ys x y m n = absurd m
product_to (z ∷ zs) ys x y (inl e) n = subst (λ a. IsIn (both a y) (products (z ∷ zs) ys)) e (in_left (map (both z) ys) (products zs ys) (both z y) (mapped_to (both z) ys y n))
product_to (z ∷ zs) ys x y (inr m) n = in_right (map (both z) ys) (products zs ys) (both x y) (product_to zs ys x y m n)

-- ---- rows that are there

row_some : (list xs : List CoverSets) → narrow list ≡ Some xs → list ≡ xs
row_some list xs h = go (nat_le (length list) 1024) h
  where
    go : (b : Bool) → cond b (Some list) None ≡ Some xs → list ≡ xs
    go true e = cc
    go false e = absurd cc

reduced_some : (pairs : List (ℕ × ℕ)) (raw : Row) (xs : List CoverSets) → reduced_row pairs raw ≡ Some xs → (raws : List CoverSets) × (raw ≡ Some raws) × (reduced pairs raws ≡ xs)
reduced_some pairs None xs h = absurd cc
reduced_some pairs (Some raws) xs h = (raws, refl, row_some (reduced pairs raws) xs h)

two_some : (h : List CoverSets → List CoverSets → List CoverSets) (x y : Row) (raws : List CoverSets) → with_two h x y ≡ Some raws
    → (xs : List CoverSets) × (ys : List CoverSets) × (x ≡ Some xs) × (y ≡ Some ys) × (h xs ys ≡ raws)
two_some h None y raws e = absurd cc
two_some h (Some xs) None raws e = absurd cc
two_some h (Some xs) (Some ys) raws e = (xs, ys, refl, refl, cc)

-- ---- the pairs of literals

any_pair : (p : ℕ × ℕ → Bool) (xs : List (ℕ × ℕ)) → list_any p xs ≡ true → (Q : ℕ × ℕ → Type 0) → All Q xs → (x : ℕ × ℕ) × Q x × (p x ≡ true)
any_pair p [] h Q a = absurd (both_ways false refl h)
any_pair p (x ∷ xs) h Q a = go (or_cases _ _ h) (λ k. any_pair p xs k Q (All-tail Q x xs a))
  where
    go : (p x ≡ true) ⊎ (list_any p xs ≡ true) → (list_any p xs ≡ true → (y : ℕ × ℕ) × Q y × (p y ≡ true)) → (y : ℕ × ℕ) × Q y × (p y ≡ true)
    go (inl e) rec = (x, All-head Q x xs a, e)
    go (inr e) rec = rec e

abbrev IsContrary : List Node → ℕ × ℕ → Type 0
IsContrary nodes p = contrary (node_at nodes p.0) (node_at nodes p.1) ≡ true

contrary_row : (nodes : List Node) (n : ℕ) (ms : List ℕ) → All (IsContrary nodes) (pairs_with n (filter (λ m. contrary (node_at nodes n) (node_at nodes m)) ms))
contrary_row nodes n [] = All-nil (IsContrary nodes)
contrary_row nodes n (m ∷ ms) = go (contrary (node_at nodes n) (node_at nodes m)) refl (contrary_row nodes n ms)
  where
    go : (b : Bool) → contrary (node_at nodes n) (node_at nodes m) ≡ b → All (IsContrary nodes) (pairs_with n (filter (λ m. contrary (node_at nodes n) (node_at nodes m)) ms))
        → All (IsContrary nodes) (pairs_with n (cond b (m ∷ filter (λ m. contrary (node_at nodes n) (node_at nodes m)) ms) (filter (λ m. contrary (node_at nodes n) (node_at nodes m)) ms)))
    go true e rec = All-cons (IsContrary nodes) (n, m) _ e rec
    go false e rec = rec

contrary_from : (nodes : List Node) (ns : List ℕ) → All (IsContrary nodes) (flat_map (λ n. pairs_with n (negations nodes (node_at nodes n))) ns)
contrary_from nodes [] = All-nil (IsContrary nodes)
contrary_from nodes (n ∷ ns) = All-append (IsContrary nodes) (pairs_with n (negations nodes (node_at nodes n))) _ (contrary_row nodes n (range_with_len 0 (length nodes))) (contrary_from nodes ns)

pub opposites_contrary : (nodes : List Node) → All (IsContrary nodes) (opposites nodes)
opposites_contrary nodes = contrary_from nodes (range_with_len 0 (length nodes))

-- two formulas that are a signal and its negation
contrary_lits : (a b : Node) → contrary a b ≡ true → (x : ℕ) × (a ≡ Lit x true) × (b ≡ Lit x false)
contrary_lits (Lit x true) (Lit y false) h = (x, refl, ap (λ z. Lit z false) (sym (eqb-true x y h)))
contrary_lits True b h = absurd (both_ways false refl h)
contrary_lits False b h = absurd (both_ways false refl h)
contrary_lits (Lit x false) b h = absurd (both_ways false refl h)
contrary_lits (And f g) b h = absurd (both_ways false refl h)
contrary_lits (Or f g) b h = absurd (both_ways false refl h)
contrary_lits (Next f) b h = absurd (both_ways false refl h)
contrary_lits (Until f g) b h = absurd (both_ways false refl h)
contrary_lits (Release f g) b h = absurd (both_ways false refl h)
contrary_lits (Lit x true) True h = absurd (both_ways false refl h)
contrary_lits (Lit x true) False h = absurd (both_ways false refl h)
contrary_lits (Lit x true) (Lit y true) h = absurd (both_ways false refl h)
contrary_lits (Lit x true) (And f g) h = absurd (both_ways false refl h)
contrary_lits (Lit x true) (Or f g) h = absurd (both_ways false refl h)
contrary_lits (Lit x true) (Next f) h = absurd (both_ways false refl h)
contrary_lits (Lit x true) (Until f g) h = absurd (both_ways false refl h)
contrary_lits (Lit x true) (Release f g) h = absurd (both_ways false refl h)

-- a formula that is no constant has its place among the formulas
pub lit_within : (nodes : List Node) (n x : ℕ) (s : Bool) → node_at nodes n ≡ Lit x s → n < length nodes
lit_within nodes n x s h = go (nat_lt n (length nodes)) refl
  where
    go : (b : Bool) → nat_lt n (length nodes) ≡ b → n < length nodes
    go true e = ltb-true n (length nodes) e
    go false e = let k : node_at nodes n ≡ True = get_or_past nodes n True (ltb-false n (length nodes) e) in absurd cc

some_same : {A : Type 0} {a b : A} → Some a ≡ Some b → a ≡ b
some_same h = cc

only_in : (o d : CoverSets) → IsIn d (o ∷ []) → o ≡ d
only_in o d (inl i) = i
only_in o d (inr m) = absurd m

module _ (nodes : List Node) (root : ℕ) (normal : IsNormal nodes root) (w : LassoData) (some : 0 < length w.cycle) where
  -- whether formula n holds at letter i of the unrolling
  abbrev pub holds_now : ℕ → ℕ → Bool
  holds_now n i = tree_holds w (formula_at nodes n) (pos w i)

  pub holds_is : (n i : ℕ) → n < length nodes → holds_now n i ≡ tree_holds w (tree_by nodes (node_at nodes n)) (pos w i)
  holds_is n i l = ap (λ t. tree_holds w t (pos w i)) (tree_is nodes root n normal l)

  pub holds_node : (n i : ℕ) (node : Node) → n < length nodes → node_at nodes n ≡ node → holds_now n i ≡ tree_holds w (tree_by nodes node) (pos w i)
  holds_node n i node l e = holds_is n i l ∙ ap (λ x. tree_holds w (tree_by nodes x) (pos w i)) e

  -- ---- a cover contains a cover of a formula

  abbrev pub Meets : CoverSets → ℕ → Type 0
  Meets c n = (list : List CoverSets) × (row_at (rows_of nodes) n ≡ Some list) × (d : CoverSets) × IsIn d list × (part_of d c ≡ true)

  abbrev pub IsRaw : CoverSets → ℕ → Node → Type 0
  IsRaw d n node = (raws : List CoverSets) × (raw_of (rows_of nodes) n node ≡ Some raws) × IsIn d raws

  raw_in : (n : ℕ) (node : Node) (list : List CoverSets) (d : CoverSets) → n < length nodes → node_at nodes n ≡ node → row_at (rows_of nodes) n ≡ Some list → IsIn d list → IsRaw d n node
  raw_in n node list d l e h m =
      let r = reduced_some (opposites nodes) (raw_of (rows_of nodes) n node) list (sym (row_is nodes root n normal l ∙ ap (λ x. reduced_row (opposites nodes) (raw_of (rows_of nodes) n x)) e) ∙ h) in
      (r.0, r.1, (reduced_in (opposites nodes) r.0 d (subst (λ xs. IsIn d xs) (sym r.2) m)).0)

  pub meets_raw : (c : CoverSets) (n : ℕ) (node : Node) → n < length nodes → node_at nodes n ≡ node → Meets c n → (d : CoverSets) × IsRaw d n node × (part_of d c ≡ true)
  meets_raw c n node l e h = (h.2, raw_in n node h.0 h.2 l e h.1 h.3, h.4)

  pub meets_lit : (c : CoverSets) (n x : ℕ) (s : Bool) → n < length nodes → node_at nodes n ≡ Lit x s → Meets c n → has c.literals n ≡ true
  meets_lit c n x s l e h =
      let r = meets_raw c n (Lit x s) l e h in
      let i : only (2 ^ n) 0 0 ≡ r.0 = only_in _ r.0 (subst (λ xs. IsIn r.0 xs) (sym (some_same r.1.1)) r.1.2) in
      has_part (2 ^ n) c.literals n (parts_of (only (2 ^ n) 0 0) c (subst (λ d. part_of d c ≡ true) (sym i) r.2)).literals (has_self n)

  pub meets_false : (c : CoverSets) (n : ℕ) → n < length nodes → node_at nodes n ≡ False → Meets c n → ⊥
  meets_false c n l e h = let r = meets_raw c n False l e h in subst (λ xs. IsIn r.0 xs) (sym (some_same r.1.1)) r.1.2

  -- a cover that contains the union of a cover of each of two formulas
  meets_two : (c d : CoverSets) (f g : ℕ) (xs ys : List CoverSets) → row_at (rows_of nodes) f ≡ Some xs → row_at (rows_of nodes) g ≡ Some ys → IsIn d (products xs ys) → part_of d c ≡ true → Meets c f × Meets c g
  meets_two c d f g xs ys e k m p =
      let r = product_from xs ys d m in
      let q : part_of (both r.0 r.1) c ≡ true = subst (λ x. part_of x c ≡ true) (sym r.4) p in
      ((xs, e, r.0, r.2, left_part r.0 r.1 c q), (ys, k, r.1, r.3, right_part r.0 r.1 c q))

  pub meets_and : (c : CoverSets) (n f g : ℕ) → n < length nodes → node_at nodes n ≡ And f g → Meets c n → Meets c f × Meets c g
  meets_and c n f g l e h =
      let r = meets_raw c n (And f g) l e h in
      let t = two_some products (row_at (rows_of nodes) f) (row_at (rows_of nodes) g) r.1.0 r.1.1 in
      meets_two c r.0 f g t.0 t.1 t.2 t.3 (subst (λ xs. IsIn r.0 xs) (sym t.4) r.1.2) r.2

  pub meets_or : (c : CoverSets) (n f g : ℕ) → n < length nodes → node_at nodes n ≡ Or f g → Meets c n → Meets c f ⊎ Meets c g
  meets_or c n f g l e h =
      let r = meets_raw c n (Or f g) l e h in
      let t = two_some ◌++◌ (row_at (rows_of nodes) f) (row_at (rows_of nodes) g) r.1.0 r.1.1 in
      go t.0 t.1 t.2 t.3 r.0 r.2 (in_either t.0 t.1 r.0 (subst (λ xs. IsIn r.0 xs) (sym t.4) r.1.2))
    where
      go : (xs ys : List CoverSets) → row_at (rows_of nodes) f ≡ Some xs → row_at (rows_of nodes) g ≡ Some ys → (d : CoverSets) → part_of d c ≡ true → IsIn d xs ⊎ IsIn d ys → Meets c f ⊎ Meets c g
      go xs ys e k d p (inl m) = inl (xs, e, d, m, p)
      go xs ys e k d p (inr m) = inr (ys, k, d, m, p)

  pub meets_next : (c : CoverSets) (n f : ℕ) → n < length nodes → node_at nodes n ≡ Next f → Meets c n → has c.next f ≡ true
  meets_next c n f l e h =
      let r = meets_raw c n (Next f) l e h in
      let i : only 0 (2 ^ f) 0 ≡ r.0 = only_in _ r.0 (subst (λ xs. IsIn r.0 xs) (sym (some_same r.1.1)) r.1.2) in
      has_part (2 ^ f) c.next f (parts_of (only 0 (2 ^ f) 0) c (subst (λ d. part_of d c ≡ true) (sym i) r.2)).next (has_self f)

  -- an until is met by its right side, or by its left side with the until at the next position, put off
  pub record PutsOff (c : CoverSets) (n f : ℕ) : Type 0 where
    pub left : Meets c f
    pub next : has c.next n ≡ true
    pub postponed : has c.postponed n ≡ true

  pub meets_until : (c : CoverSets) (n f g : ℕ) → n < length nodes → node_at nodes n ≡ Until f g → Meets c n → Meets c g ⊎ PutsOff c n f
  meets_until c n f g l e h =
      let r = meets_raw c n (Until f g) l e h in
      let t = two_some (until_raw n) (row_at (rows_of nodes) f) (row_at (rows_of nodes) g) r.1.0 r.1.1 in
      go t.0 t.1 t.2 t.3 r.0 r.2 (in_either t.1 (products t.0 (only 0 (2 ^ n) (2 ^ n) ∷ [])) r.0 (subst (λ xs. IsIn r.0 xs) (sym t.4) r.1.2))
    where
      go : (xs ys : List CoverSets) → row_at (rows_of nodes) f ≡ Some xs → row_at (rows_of nodes) g ≡ Some ys → (d : CoverSets) → part_of d c ≡ true
          → IsIn d ys ⊎ IsIn d (products xs (only 0 (2 ^ n) (2 ^ n) ∷ [])) → Meets c g ⊎ PutsOff c n f
      go xs ys e k d p (inl m) = inl (ys, k, d, m, p)
      go xs ys e k d p (inr m) =
          let r = product_from xs (only 0 (2 ^ n) (2 ^ n) ∷ []) d m in
          let i : only 0 (2 ^ n) (2 ^ n) ≡ r.1 = only_in _ r.1 r.3 in
          let q : part_of (both r.0 r.1) c ≡ true = subst (λ x. part_of x c ≡ true) (sym r.4) p in
          let o = parts_of (only 0 (2 ^ n) (2 ^ n)) c (subst (λ x. part_of x c ≡ true) (sym i) (right_part r.0 r.1 c q)) in
          inr (record { left = (xs, e, r.0, r.2, left_part r.0 r.1 c q); next = has_part (2 ^ n) c.next n o.next (has_self n); postponed = has_part (2 ^ n) c.postponed n o.postponed (has_self n) })

  pub meets_release : (c : CoverSets) (n f g : ℕ) → n < length nodes → node_at nodes n ≡ Release f g → Meets c n → Meets c g × (Meets c f ⊎ (has c.next n ≡ true))
  meets_release c n f g l e h =
      let r = meets_raw c n (Release f g) l e h in
      let t = two_some (release_raw n) (row_at (rows_of nodes) f) (row_at (rows_of nodes) g) r.1.0 r.1.1 in
      let u = product_from t.1 (t.0 ++ only 0 (2 ^ n) 0 ∷ []) r.0 (subst (λ xs. IsIn r.0 xs) (sym t.4) r.1.2) in
      let q : part_of (both u.0 u.1) c ≡ true = subst (λ x. part_of x c ≡ true) (sym u.4) r.2 in
      ((t.1, t.3, u.0, u.2, left_part u.0 u.1 c q), go t.0 t.2 u.1 (right_part u.0 u.1 c q) (in_either t.0 (only 0 (2 ^ n) 0 ∷ []) u.1 u.3))
    where
      go : (xs : List CoverSets) → row_at (rows_of nodes) f ≡ Some xs → (y : CoverSets) → part_of y c ≡ true → IsIn y xs ⊎ IsIn y (only 0 (2 ^ n) 0 ∷ []) → Meets c f ⊎ (has c.next n ≡ true)
      go xs e y p (inl m) = inl (xs, e, y, m, p)
      go xs e y p (inr m) =
          let i : only 0 (2 ^ n) 0 ≡ y = only_in _ y m in
          inr (has_part (2 ^ n) c.next n (parts_of (only 0 (2 ^ n) 0) c (subst (λ x. part_of x c ≡ true) (sym i) p)).next (has_self n))

  -- ---- covers of a set

  pub times_some : (list row : Row) (xs : List CoverSets) → times (opposites nodes) list row ≡ Some xs
      → (xs' : List CoverSets) × (bs : List CoverSets) × (list ≡ Some xs') × (row ≡ Some bs) × (reduced (opposites nodes) (products xs' bs) ≡ xs)
  times_some list row xs h =
      let r = reduced_some (opposites nodes) (with_two products list row) xs h in
      let t = two_some products list row r.0 r.1 in
      (t.0, t.1, t.2, t.3, ap (reduced (opposites nodes)) t.4 ∙ r.2)

  -- each cover of the end contains one of the start
  members_extend : (set k : ℕ) (rest : List Row) (start : Row) (end : List CoverSets) → with_members (opposites nodes) set k rest start ≡ Some end
      → (starts : List CoverSets) × (start ≡ Some starts) × ((c : CoverSets) → IsIn c end → (x : CoverSets) × IsIn x starts × (part_of x c ≡ true))
  members_extend set k [] start end h = (end, h, λ c m. (c, m, part_self c))
  members_extend set k (row ∷ rest) start end h = go (has set k) h (λ s q. members_extend set (k + 1) rest s end q)
    where
      go : (b : Bool) → with_members (opposites nodes) set (k + 1) rest (cond b (times (opposites nodes) start row) start) ≡ Some end
          → ((s : Row) → with_members (opposites nodes) set (k + 1) rest s ≡ Some end
          → (starts : List CoverSets) × (s ≡ Some starts) × ((c : CoverSets) → IsIn c end → (x : CoverSets) × IsIn x starts × (part_of x c ≡ true)))
          → (starts : List CoverSets) × (start ≡ Some starts) × ((c : CoverSets) → IsIn c end → (x : CoverSets) × IsIn x starts × (part_of x c ≡ true))
      go false q rec = rec start q
      go true q rec =
          let r = rec (times (opposites nodes) start row) q in
          let t = times_some start row r.0 r.1 in (
            t.0,
            t.2,
            λ c m.
                let x = r.2 c m in
                let y = product_from t.0 t.1 x.0 (reduced_in (opposites nodes) (products t.0 t.1) x.0 (subst (λ xs. IsIn x.0 xs) (sym t.4) x.1)).0 in
                (y.0, y.2, part_trans y.0 x.0 c (left_part y.0 y.1 x.0 (subst (λ z. part_of z x.0 ≡ true) (sym y.4) (part_self x.0))) x.2),
          )

  members_meet : (set k : ℕ) (rest : List Row) (start : Row) (end : List CoverSets) (n : ℕ) → ((j : ℕ) → j < length rest → get_or rest j None ≡ row_at (rows_of nodes) (k + j))
      → k ≤ n → n < k + length rest → has set n ≡ true → with_members (opposites nodes) set k rest start ≡ Some end → (c : CoverSets) → IsIn c end → Meets c n
  members_meet set k [] start end n rows l u t h c m = absurd (omega arith)
  members_meet set k (row ∷ rest) start end n rows l u t h c m =
      go (eqb n k) refl
      (λ s p q. members_meet set (k + 1) rest s end n (λ j d. let e : k + 1 + j ≡ k + suc j = omega arith in rows (suc j) (omega arith) ∙ ap (row_at (rows_of nodes)) (sym e)) p (omega arith) t q c m)
    where
      zero_more : k + 0 ≡ k
      zero_more = omega arith

      own : n ≡ k → with_members (opposites nodes) set (k + 1) rest (times (opposites nodes) start row) ≡ Some end → Meets c n
      own e q =
          let r = members_extend set (k + 1) rest (times (opposites nodes) start row) end q in
          let v = times_some start row r.0 r.1 in
          let x = r.2 c m in
          let y = product_from v.0 v.1 x.0 (reduced_in (opposites nodes) (products v.0 v.1) x.0 (subst (λ xs. IsIn x.0 xs) (sym v.4) x.1)).0 in
          let here : row ≡ row_at (rows_of nodes) n = rows 0 (omega arith) ∙ ap (row_at (rows_of nodes)) (zero_more ∙ sym e) in
          (v.1, sym here ∙ v.3, y.1, y.3, part_trans y.1 x.0 c (right_part y.0 y.1 x.0 (subst (λ z. part_of z x.0 ≡ true) (sym y.4) (part_self x.0))) x.2)

      go : (b : Bool) → eqb n k ≡ b → ((s : Row) → k + 1 ≤ n → with_members (opposites nodes) set (k + 1) rest s ≡ Some end → Meets c n) → Meets c n
      go true e rec =
          let i : n ≡ k = eqb-true n k e in
          let f : has set k ≡ true = subst (λ j. has set j ≡ true) i t in
          own i (ap (λ b. with_members (opposites nodes) set (k + 1) rest (cond b (times (opposites nodes) start row) start)) (sym f) ∙ h)
      go false e rec = let ne = eqb-false n k e in rec _ (omega arith) h

  pub set_meets : (set : ℕ) (list : List CoverSets) (n : ℕ) → set_row (opposites nodes) (rows_of nodes) set ≡ Some list → has set n ≡ true → n < length nodes → (c : CoverSets) → IsIn c list → Meets c n
  unfolding set_row
  set_meets set list n h t l c m =
      members_meet set 0 (rows_of nodes) (Some (no_demand ∷ [])) list n (λ j k. let e : j ≡ 0 + j = omega arith in ap (row_at (rows_of nodes)) e) (omega arith) (omega (arith, rows_each nodes)) t h c m

  -- ---- covers that are true at a letter of the unrolling

  pub record Good (c : CoverSets) (i : ℕ) : Type 0 where
    pub literals : (n : ℕ) → has c.literals n ≡ true → holds_now n i ≡ true
    pub next : (n : ℕ) → has c.next n ≡ true → holds_now n (suc i) ≡ true
    pub postponed : (n : ℕ) → has c.postponed n ≡ true → (f g : ℕ) → node_at nodes n ≡ Until f g → (holds_now g i ≡ false) × (holds_now n (suc i) ≡ true)

  good_none : (i : ℕ) → Good no_demand i
  good_none i = record { literals = λ n h. absurd (has_none n h); next = λ n h. absurd (has_none n h); postponed = λ n h f g e. absurd (has_none n h) }

  good_both : (x y : CoverSets) (i : ℕ) → Good x i → Good y i → Good (both x y) i
  good_both x y i p q = record {
    literals = λ n h. lits n (has_union x.literals y.literals n h);
    next = λ n h. nexts n (has_union x.next y.next n h);
    postponed = λ n h f g e. posts n f g e (has_union x.postponed y.postponed n h);
  }
    where
      lits : (n : ℕ) → (has x.literals n ≡ true) ⊎ (has y.literals n ≡ true) → holds_now n i ≡ true
      lits n (inl h) = p.literals n h
      lits n (inr h) = q.literals n h

      nexts : (n : ℕ) → (has x.next n ≡ true) ⊎ (has y.next n ≡ true) → holds_now n (suc i) ≡ true
      nexts n (inl h) = p.next n h
      nexts n (inr h) = q.next n h

      posts : (n f g : ℕ) → node_at nodes n ≡ Until f g → (has x.postponed n ≡ true) ⊎ (has y.postponed n ≡ true) → (holds_now g i ≡ false) × (holds_now n (suc i) ≡ true)
      posts n f g e (inl h) = p.postponed n h f g e
      posts n f g e (inr h) = q.postponed n h f g e

  good_part : (d c : CoverSets) (i : ℕ) → part_of d c ≡ true → Good c i → Good d i
  good_part d c i h p =
      let q = parts_of d c h in
      record {
        literals = λ n k. p.literals n (has_part d.literals c.literals n q.literals k);
        next = λ n k. p.next n (has_part d.next c.next n q.next k);
        postponed = λ n k f g e. p.postponed n (has_part d.postponed c.postponed n q.postponed k) f g e;
      }

  good_lit : (n i : ℕ) → holds_now n i ≡ true → Good (only (2 ^ n) 0 0) i
  good_lit n i h = record {
    literals = λ m k. subst (λ j. holds_now j i ≡ true) (sym (has_only n m k)) h;
    next = λ m k. absurd (has_none m k);
    postponed = λ m k f g e. absurd (has_none m k);
  }

  good_next : (n i : ℕ) → holds_now n (suc i) ≡ true → Good (only 0 (2 ^ n) 0) i
  good_next n i h = record {
    literals = λ m k. absurd (has_none m k);
    next = λ m k. subst (λ j. holds_now j (suc i) ≡ true) (sym (has_only n m k)) h;
    postponed = λ m k f g e. absurd (has_none m k);
  }

  good_later : (n i f g : ℕ) → node_at nodes n ≡ Until f g → holds_now g i ≡ false → holds_now n (suc i) ≡ true → Good (only 0 (2 ^ n) (2 ^ n)) i
  good_later n i f g e k h = record {
    literals = λ m t. absurd (has_none m t);
    next = λ m t. subst (λ j. holds_now j (suc i) ≡ true) (sym (has_only n m t)) h;
    postponed = λ m t f' g' e'.
        let s : m ≡ n = has_only n m t in
        let u : Until f' g' ≡ Until f g = sym e' ∙ ap (node_at nodes) s ∙ e in
        let v : g' ≡ g = cc in
        (subst (λ j. holds_now j i ≡ false) (sym v) k, subst (λ j. holds_now j (suc i) ≡ true) (sym s) h);
  }

  -- a true cover is consistent
  pub good_consistent : (c : CoverSets) (i : ℕ) → Good c i → consistent (opposites nodes) c.literals ≡ true
  good_consistent c i p = go (list_any (λ q. has c.literals q.0 && has c.literals q.1) (opposites nodes)) refl
    where
      never : (x : ℕ × ℕ) → contrary (node_at nodes x.0) (node_at nodes x.1) ≡ true → (has c.literals x.0 && has c.literals x.1) ≡ true → ⊥
      never x h k =
          let q = and_parts _ _ k in
          let r = contrary_lits (node_at nodes x.0) (node_at nodes x.1) h in
          let a : signal_at w r.0 (pos w i) ≡ true = sym (holds_node x.0 i (Lit r.0 true) (lit_within nodes x.0 r.0 true r.1) r.1) ∙ p.literals x.0 q.0 in
          let b : not (signal_at w r.0 (pos w i)) ≡ true = sym (holds_node x.1 i (Lit r.0 false) (lit_within nodes x.1 r.0 false r.2) r.2) ∙ p.literals x.1 q.1 in
          both_ways (signal_at w r.0 (pos w i)) (not-true _ b) a

      go : (b : Bool) → list_any (λ q. has c.literals q.0 && has c.literals q.1) (opposites nodes) ≡ b → not b ≡ true
      go false e = refl
      go true e = let r = any_pair (λ q. has c.literals q.0 && has c.literals q.1) (opposites nodes) e (IsContrary nodes) (opposites_contrary nodes) in absurd (never r.0 r.1 r.2)

  -- ---- covers of numbers below 512

  narrow_only : (l n p : ℕ) → l < 2 ^ 512 → n < 2 ^ 512 → p < 2 ^ 512 → Narrow (only l n p)
  narrow_only l n p a b c = record { literals = a; next = b; postponed = c }

  pow_narrow : (n : ℕ) → n < 512 → 2 ^ n < 2 ^ 512
  pow_narrow n l = pow_below n 512 l

  none_narrow : 0 < 2 ^ 512
  none_narrow = pow_pos 512

  narrow_two : (x y : CoverSets) → Narrow x → Narrow y → Narrow (both x y)
  narrow_two x y n m = record { literals = or_lt 512 _ _ n.literals m.literals; next = or_lt 512 _ _ n.next m.next; postponed = or_lt 512 _ _ n.postponed m.postponed }

  narrow_product : (xs ys : List CoverSets) → ((d : CoverSets) → IsIn d xs → Narrow d) → ((d : CoverSets) → IsIn d ys → Narrow d) → (d : CoverSets) → IsIn d (products xs ys) → Narrow d
  narrow_product xs ys a b d m = let r = product_from xs ys d m in subst Narrow r.4 (narrow_two r.0 r.1 (a r.0 r.2) (b r.1 r.3))

  narrow_with : (xs : List CoverSets) (o : CoverSets) → ((d : CoverSets) → IsIn d xs → Narrow d) → Narrow o → (d : CoverSets) → IsIn d xs ⊎ IsIn d (o ∷ []) → Narrow d
  narrow_with xs o a b d (inl m) = a d m
  narrow_with xs o a b d (inr m) = subst Narrow (only_in o d m) b

  abbrev NarrowRow : ℕ → Type 0
  NarrowRow n = (list : List CoverSets) → row_at (rows_of nodes) n ≡ Some list → (d : CoverSets) → IsIn d list → Narrow d

  narrow_raw : (n : ℕ) (node : Node) → n < 512 → IsNodeAt n node → ((m : ℕ) → m < n → NarrowRow m) → (raws : List CoverSets) → raw_of (rows_of nodes) n node ≡ Some raws → (d : CoverSets) → IsIn d raws → Narrow d
  narrow_raw n True l b rec raws h d m = subst Narrow (only_in no_demand d (subst (λ xs. IsIn d xs) (sym (some_same h)) m)) (narrow_only 0 0 0 none_narrow none_narrow none_narrow)
  narrow_raw n False l b rec raws h d m = absurd (subst (λ xs. IsIn d xs) (sym (some_same h)) m)
  narrow_raw n (Lit x s) l b rec raws h d m = subst Narrow (only_in (only (2 ^ n) 0 0) d (subst (λ xs. IsIn d xs) (sym (some_same h)) m)) (narrow_only (2 ^ n) 0 0 (pow_narrow n l) none_narrow none_narrow)
  narrow_raw n (And f g) l b rec raws h d m =
      let t = two_some products (row_at (rows_of nodes) f) (row_at (rows_of nodes) g) raws h in
      narrow_product t.0 t.1 (rec f b.0 t.0 t.2) (rec g b.1 t.1 t.3) d (subst (λ xs. IsIn d xs) (sym t.4) m)
  narrow_raw n (Or f g) l b rec raws h d m =
      let t = two_some ◌++◌ (row_at (rows_of nodes) f) (row_at (rows_of nodes) g) raws h in
      either t.0 t.1 (rec f b.0 t.0 t.2) (rec g b.1 t.1 t.3) (in_either t.0 t.1 d (subst (λ xs. IsIn d xs) (sym t.4) m))
    where
      either : (xs ys : List CoverSets) → ((d : CoverSets) → IsIn d xs → Narrow d) → ((d : CoverSets) → IsIn d ys → Narrow d) → IsIn d xs ⊎ IsIn d ys → Narrow d
      either xs ys a b (inl k) = a d k
      either xs ys a b (inr k) = b d k
  narrow_raw n (Next f) l b rec raws h d m =
      subst Narrow (only_in (only 0 (2 ^ f) 0) d (subst (λ xs. IsIn d xs) (sym (some_same h)) m)) (narrow_only 0 (2 ^ f) 0 none_narrow (pow_narrow f (omega arith)) none_narrow)
  narrow_raw n (Until f g) l b rec raws h d m =
      let t = two_some (until_raw n) (row_at (rows_of nodes) f) (row_at (rows_of nodes) g) raws h in
      either t.0 t.1 (rec f b.0 t.0 t.2) (rec g b.1 t.1 t.3) (in_either t.1 (products t.0 (only 0 (2 ^ n) (2 ^ n) ∷ [])) d (subst (λ xs. IsIn d xs) (sym t.4) m))
    where
      one : (d : CoverSets) → IsIn d (only 0 (2 ^ n) (2 ^ n) ∷ []) → Narrow d
      one d k = subst Narrow (only_in _ d k) (narrow_only 0 (2 ^ n) (2 ^ n) none_narrow (pow_narrow n l) (pow_narrow n l))

      either : (xs ys : List CoverSets) → ((d : CoverSets) → IsIn d xs → Narrow d) → ((d : CoverSets) → IsIn d ys → Narrow d) → IsIn d ys ⊎ IsIn d (products xs (only 0 (2 ^ n) (2 ^ n) ∷ [])) → Narrow d
      either xs ys a b (inl k) = b d k
      either xs ys a b (inr k) = narrow_product xs (only 0 (2 ^ n) (2 ^ n) ∷ []) a one d k
  narrow_raw n (Release f g) l b rec raws h d m =
      let t = two_some (release_raw n) (row_at (rows_of nodes) f) (row_at (rows_of nodes) g) raws h in
      narrow_product t.1 (t.0 ++ only 0 (2 ^ n) 0 ∷ []) (rec g b.1 t.1 t.3)
      (λ y k. narrow_with t.0 (only 0 (2 ^ n) 0) (rec f b.0 t.0 t.2) (narrow_only 0 (2 ^ n) 0 none_narrow (pow_narrow n l) none_narrow) y (in_either t.0 (only 0 (2 ^ n) 0 ∷ []) y k))
      d (subst (λ xs. IsIn d xs) (sym t.4) m)

  narrow_below : (b n : ℕ) → n < b → n < length nodes → NarrowRow n
  narrow_below zero n l k list h d m = absurd (omega arith)
  narrow_below (suc b) n l k list h d m =
      let r = raw_in n (node_at nodes n) list d k refl h m in
      narrow_raw n (node_at nodes n) (omega (arith, normal.few)) (normal.below n True k) (λ j i. narrow_below b j (omega arith) (omega arith)) r.0 r.1 d r.2

  pub narrow_row : (n : ℕ) → n < length nodes → NarrowRow n
  narrow_row n l = narrow_below (suc n) n (omega arith) l

  -- ---- a formula that holds has a true cover

  abbrev pub HasGood : ℕ → ℕ → Type 0
  HasGood n i = (list : List CoverSets) → row_at (rows_of nodes) n ≡ Some list → (d : CoverSets) × IsIn d list × Good d i

  abbrev RawGood : ℕ → Node → ℕ → Type 0
  RawGood n node i = (raws : List CoverSets) → raw_of (rows_of nodes) n node ≡ Some raws → (d : CoverSets) × IsIn d raws × Good d i

  raw_good : (n : ℕ) (node : Node) (i : ℕ) → n < length nodes → node_at nodes n ≡ node → IsNodeAt n node → holds_now n i ≡ true → ((m : ℕ) → m < n → holds_now m i ≡ true → HasGood m i) → RawGood n node i
  raw_good n True i l e b t rec raws h = (no_demand, subst (λ xs. IsIn no_demand xs) (some_same h) (inl refl), good_none i)
  raw_good n False i l e b t rec raws h = absurd (both_ways false refl (sym (holds_node n i False l e) ∙ t))
  raw_good n (Lit x s) i l e b t rec raws h = (only (2 ^ n) 0 0, subst (λ xs. IsIn (only (2 ^ n) 0 0) xs) (some_same h) (inl refl), good_lit n i t)
  raw_good n (And f g) i l e b t rec raws h =
      let p = and_parts _ _ (sym (holds_node n i (And f g) l e) ∙ t) in
      let r = two_some products (row_at (rows_of nodes) f) (row_at (rows_of nodes) g) raws h in
      let x = rec f b.0 p.0 r.0 r.2 in
      let y = rec g b.1 p.1 r.1 r.3 in
      (both x.0 y.0, subst (λ xs. IsIn (both x.0 y.0) xs) r.4 (product_to r.0 r.1 x.0 y.0 x.1 y.1), good_both x.0 y.0 i x.2 y.2)
  raw_good n (Or f g) i l e b t rec raws h =
      let r = two_some ◌++◌ (row_at (rows_of nodes) f) (row_at (rows_of nodes) g) raws h in
      go r.0 r.1 r.2 r.3 r.4 (or_cases _ _ (sym (holds_node n i (Or f g) l e) ∙ t))
    where
      go : (xs ys : List CoverSets) → row_at (rows_of nodes) f ≡ Some xs → row_at (rows_of nodes) g ≡ Some ys → xs ++ ys ≡ raws → (holds_now f i ≡ true) ⊎ (holds_now g i ≡ true) → (d : CoverSets) × IsIn d raws × Good d i
      go xs ys a c s (inl p) = let x = rec f b.0 p xs a in (x.0, subst (λ zs. IsIn x.0 zs) s (in_left xs ys x.0 x.1), x.2)
      go xs ys a c s (inr p) = let x = rec g b.1 p ys c in (x.0, subst (λ zs. IsIn x.0 zs) s (in_right xs ys x.0 x.1), x.2)
  raw_good n (Next f) i l e b t rec raws h =
      (only 0 (2 ^ f) 0, subst (λ xs. IsIn (only 0 (2 ^ f) 0) xs) (some_same h) (inl refl), good_next f i (sym (holds_node n i (Next f) l e) ∙ t))
  raw_good n (Until f g) i l e b t rec raws h =
      let r = two_some (until_raw n) (row_at (rows_of nodes) f) (row_at (rows_of nodes) g) raws h in
      go r.0 r.1 r.2 r.3 r.4 (holds_now g i) refl
    where
      go : (xs ys : List CoverSets) → row_at (rows_of nodes) f ≡ Some xs → row_at (rows_of nodes) g ≡ Some ys → until_raw n xs ys ≡ raws → (s : Bool) → holds_now g i ≡ s → (d : CoverSets) × IsIn d raws × Good d i
      go xs ys a c s true p = let x = rec g b.1 p ys c in (x.0, subst (λ zs. IsIn x.0 zs) s (in_left ys _ x.0 x.1), x.2)
      go xs ys a c s false p =
          let u = until_waits w some (λ q. tree_holds w (formula_at nodes f) q) (λ q. tree_holds w (formula_at nodes g) q) i (sym (holds_node n i (Until f g) l e) ∙ t) p in
          let x = rec f b.0 u.0 xs a in
          let o : CoverSets = only 0 (2 ^ n) (2 ^ n) in (
            both x.0 o,
            subst (λ zs. IsIn (both x.0 o) zs) s (in_right ys (products xs (o ∷ [])) (both x.0 o) (product_to xs (o ∷ []) x.0 o x.1 (inl refl))),
            good_both x.0 o i x.2 (good_later n i f g e p (holds_node n (suc i) (Until f g) l e ∙ u.1)),
          )
  raw_good n (Release f g) i l e b t rec raws h =
      let r = two_some (release_raw n) (row_at (rows_of nodes) f) (row_at (rows_of nodes) g) raws h in
      let u = release_open w some (λ q. tree_holds w (formula_at nodes f) q) (λ q. tree_holds w (formula_at nodes g) q) i (sym (holds_node n i (Release f g) l e) ∙ t) in
      let y = rec g b.1 u.0 r.1 r.3 in
      go r.0 r.1 r.2 r.4 y.0 y.1 y.2 u.1
    where
      go : (xs ys : List CoverSets) → row_at (rows_of nodes) f ≡ Some xs → release_raw n xs ys ≡ raws → (y : CoverSets) → IsIn y ys → Good y i
          → (holds_now f i ≡ true) ⊎ (release_at w (λ q. tree_holds w (formula_at nodes f) q) (λ q. tree_holds w (formula_at nodes g) q) (pos w (suc i)) ≡ true) → (d : CoverSets) × IsIn d raws × Good d i
      go xs ys a s y m q (inl p) =
          let x = rec f b.0 p xs a in
          (both y x.0, subst (λ zs. IsIn (both y x.0) zs) s (product_to ys (xs ++ only 0 (2 ^ n) 0 ∷ []) y x.0 m (in_left xs (only 0 (2 ^ n) 0 ∷ []) x.0 x.1)), good_both y x.0 i q x.2)
      go xs ys a s y m q (inr p) =
          let o : CoverSets = only 0 (2 ^ n) 0 in (
            both y o,
            subst (λ zs. IsIn (both y o) zs) s (product_to ys (xs ++ o ∷ []) y o m (in_right xs (o ∷ []) o (inl refl))),
            good_both y o i q (good_next n i (holds_node n (suc i) (Release f g) l e ∙ p)),
          )

  -- a true raw cover has a true reduced one inside it
  good_reduced : (raws : List CoverSets) (d : CoverSets) (i : ℕ) → All Narrow raws → IsIn d raws → Good d i → (e : CoverSets) × IsIn e (reduced (opposites nodes) raws) × Good e i
  good_reduced raws d i n m g = let r = reduced_within (opposites nodes) raws d n m (good_consistent d i g) in (r.0, r.1, good_part r.0 d i r.2 g)

  good_below : (b n i : ℕ) → n < b → n < length nodes → holds_now n i ≡ true → HasGood n i
  good_below zero n i l k t list h = absurd (omega arith)
  good_below (suc b) n i l k t list h =
      let r = reduced_some (opposites nodes) (raw_of (rows_of nodes) n (node_at nodes n)) list (sym (row_is nodes root n normal k) ∙ h) in
      let d = raw_good n (node_at nodes n) i k refl (normal.below n True k) t (λ m j s. good_below b m i (omega arith) (omega arith) s) r.0 r.1 in
      let narrow' : All Narrow r.0 = all_in Narrow r.0 (λ c m. narrow_raw n (node_at nodes n) (omega (arith, normal.few)) (normal.below n True k) (λ j i. narrow_row j (omega arith)) r.0 r.1 c m) in
      let e = good_reduced r.0 d.0 i narrow' d.1 d.2 in
      (e.0, subst (λ xs. IsIn e.0 xs) r.2 e.1, e.2)

  pub row_good : (n i : ℕ) → n < length nodes → holds_now n i ≡ true → HasGood n i
  row_good n i l t = good_below (suc n) n i (omega arith) l t

  -- ---- a set of formulas that hold has a true cover

  members_good : (set k : ℕ) (rest : List Row) (starts end : List CoverSets) (i : ℕ) → ((j : ℕ) → j < length rest → get_or rest j None ≡ row_at (rows_of nodes) (k + j)) → k + length rest ≡ length nodes
      → ((n : ℕ) → has set n ≡ true → holds_now n i ≡ true) → All Narrow starts → (x : CoverSets) → IsIn x starts → Good x i → with_members (opposites nodes) set k rest (Some starts) ≡ Some end
      → (c : CoverSets) × IsIn c end × Good c i
  members_good set k [] starts end i rows each t n x m g h = (x, subst (λ xs. IsIn x xs) (some_same h) m, g)
  members_good set k (row ∷ rest) starts end i rows each t n x m g h =
      go (has set k) refl h
      (λ ss a y b c q. members_good set (k + 1) rest ss end i (λ j d. let e : k + 1 + j ≡ k + suc j = omega arith in rows (suc j) (omega arith) ∙ ap (row_at (rows_of nodes)) (sym e)) (omega arith) t a y b c q)
    where
      zero_more : k + 0 ≡ k
      zero_more = omega arith

      go : (b : Bool) → has set k ≡ b → with_members (opposites nodes) set (k + 1) rest (cond b (times (opposites nodes) (Some starts) row) (Some starts)) ≡ Some end
          → ((ss : List CoverSets) → All Narrow ss → (y : CoverSets) → IsIn y ss → Good y i → with_members (opposites nodes) set (k + 1) rest (Some ss) ≡ Some end → (c : CoverSets) × IsIn c end × Good c i)
          → (c : CoverSets) × IsIn c end × Good c i
      go false e q rec = rec starts n x m g q
      go true e q rec =
          let r = members_extend set (k + 1) rest (times (opposites nodes) (Some starts) row) end q in
          let v = times_some (Some starts) row r.0 r.1 in
          let here : row_at (rows_of nodes) k ≡ Some v.1 = ap (row_at (rows_of nodes)) (sym zero_more) ∙ sym (rows 0 (omega arith)) ∙ v.3 in
          let z = row_good k i (omega arith) (t k e) v.1 here in
          let same : v.0 ≡ starts = sym (some_same v.2) in
          let raws : List CoverSets = products starts v.1 in
          let narrow' : All Narrow raws = all_in Narrow raws (λ c p. narrow_product starts v.1 (λ d o. in_all Narrow starts d n o) (narrow_row k (omega arith) v.1 here) c p) in
          let w' = good_reduced raws (both x z.0) i narrow' (product_to starts v.1 x z.0 m z.1) (good_both x z.0 i g z.2) in
          let list : reduced (opposites nodes) raws ≡ r.0 = ap (λ xs. reduced (opposites nodes) (products xs v.1)) (sym same) ∙ v.4 in
          let few : All Narrow r.0 = all_in Narrow r.0 (λ c p. in_all Narrow raws c narrow' (reduced_in (opposites nodes) raws c (subst (λ xs. IsIn c xs) (sym list) p)).0) in
          rec r.0 few w'.0 (subst (λ xs. IsIn w'.0 xs) list w'.1) w'.2 (ap (with_members (opposites nodes) set (k + 1) rest) (sym r.1) ∙ q)

  pub set_good : (set : ℕ) (list : List CoverSets) (i : ℕ) → set_row (opposites nodes) (rows_of nodes) set ≡ Some list → ((n : ℕ) → has set n ≡ true → holds_now n i ≡ true) → (c : CoverSets) × IsIn c list × Good c i
  unfolding set_row
  set_good set list i h t =
      members_good set 0 (rows_of nodes) (no_demand ∷ []) list i (λ j k. let e : j ≡ 0 + j = omega arith in ap (row_at (rows_of nodes)) e) (omega (arith, rows_each nodes)) t
      (All-cons Narrow no_demand [] (narrow_only 0 0 0 none_narrow none_narrow none_narrow) (All-nil Narrow)) no_demand (inl refl) (good_none i) h
