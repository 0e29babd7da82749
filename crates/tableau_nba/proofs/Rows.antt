-- The tree and the row of each formula over those of its operands.
use Rattle.std.proofs.Common.{◌≡◌, ℕ, zero, suc, ◌+◌, ◌<◌, List, [], ◌∷◌, ◌++◌, length, get_or, None, refl, sym, ap, ◌∙◌, arith}
use Rattle.std.specs.Prelude.{fold}
use Rattle.std.proofs.lemmas.List.{get_or_append_left, get_or_at, length_push}
use Rattle.ltl_form.specs.declared.normals.Node.{Node}
use Rattle.ltl_form.specs.declared.normals.Node.TheVariants.{True, False, Lit, And, Or, Next, Until, Release}
use Rattle.ltl_form.specs.Normal.{IsNodeAt, IsNormal}
use Rattle.ltl_form.specs.NodeTrees.{formula_at, node_tree, node_trees}
use Rattle.ltl_form.specs.Tree.{Tree, truth, falsity, literal, conjoined, disjoined, following, until, release}
use Rattle.cover_sets.specs.Covers.{Row, node_at, opposites, products, raw_of, reduced_row, release_raw, row_at, rows_after, rows_of, until_raw, with_two}

module _ {A X : Type 0} (step : List A → X → A) where
  -- each step adds an entry, which may look up the entries before it
  abbrev built : List A → List X → List A
  built acc xs = fold (λ made x. made ++ step made x ∷ []) acc xs

  built_keeps : (acc : List A) (xs : List X) (i : ℕ) (d : A) → i < length acc → get_or (built acc xs) i d ≡ get_or acc i d
  built_keeps acc [] i d l = refl
  built_keeps acc (x ∷ xs) i d l =
      let e : length (acc ++ step acc x ∷ []) ≡ length acc + 1 = length_push acc (step acc x) in
      built_keeps (acc ++ step acc x ∷ []) xs i d (omega arith) ∙ get_or_append_left acc (step acc x ∷ []) d i l

  -- an entry is a step from the entries before it
  record Entry (all : List A) (n : ℕ) (x : X) (d : A) : Type 0 where
    before : List A
    each : length before ≡ n
    same : (i : ℕ) → i < n → get_or before i d ≡ get_or all i d
    is : get_or all n d ≡ step before x

  built_at : (acc : List A) (xs : List X) (k n : ℕ) (e : X) (d : A) → k < length xs → n ≡ length acc + k → Entry (built acc xs) n (get_or xs k e) d
  built_at acc [] k n e d l h = absurd (omega arith)
  built_at acc (x ∷ xs) zero n e d l h =
      let m : n ≡ length acc = omega arith in
      let p : length (acc ++ step acc x ∷ []) ≡ length acc + 1 = length_push acc (step acc x) in
      record {
        before = acc;
        each = sym m;
        same = λ i k. sym (built_keeps (acc ++ step acc x ∷ []) xs i d (omega arith) ∙ get_or_append_left acc (step acc x ∷ []) d i (omega arith));
        is = built_keeps (acc ++ step acc x ∷ []) xs n d (omega arith) ∙ get_or_at acc (step acc x) [] d n (sym m);
      }
  built_at acc (x ∷ xs) (suc k) n e d l h =
      let p : length (acc ++ step acc x ∷ []) ≡ length acc + 1 = length_push acc (step acc x) in
      let r = built_at (acc ++ step acc x ∷ []) xs k n e d (omega arith) (omega arith) in
      record { before = r.before; each = r.each; same = r.same; is = r.is }

-- ---- trees

-- the tree of a formula, by its operands' trees
abbrev pub tree_by : List Node → Node → Tree
tree_by nodes True = truth
tree_by nodes False = falsity
tree_by nodes (Lit signal positive) = literal signal positive
tree_by nodes (And f g) = conjoined (formula_at nodes f) (formula_at nodes g)
tree_by nodes (Or f g) = disjoined (formula_at nodes f) (formula_at nodes g)
tree_by nodes (Next f) = following (formula_at nodes f)
tree_by nodes (Until f g) = until (formula_at nodes f) (formula_at nodes g)
tree_by nodes (Release f g) = release (formula_at nodes f) (formula_at nodes g)

same_tree : (nodes : List Node) (before : List Tree) (n : ℕ) (node : Node) → ((i : ℕ) → i < n → get_or before i truth ≡ formula_at nodes i) → IsNodeAt n node → node_tree before node ≡ tree_by nodes node
same_tree nodes before n True h b = refl
same_tree nodes before n False h b = refl
same_tree nodes before n (Lit signal positive) h b = refl
same_tree nodes before n (And f g) h b = ap (λ t. conjoined t (get_or before g truth)) (h f b.0) ∙ ap (conjoined (formula_at nodes f)) (h g b.1)
same_tree nodes before n (Or f g) h b = ap (λ t. disjoined t (get_or before g truth)) (h f b.0) ∙ ap (disjoined (formula_at nodes f)) (h g b.1)
same_tree nodes before n (Next f) h b = ap following (h f b)
same_tree nodes before n (Until f g) h b = ap (λ t. until t (get_or before g truth)) (h f b.0) ∙ ap (until (formula_at nodes f)) (h g b.1)
same_tree nodes before n (Release f g) h b = ap (λ t. release t (get_or before g truth)) (h f b.0) ∙ ap (release (formula_at nodes f)) (h g b.1)

pub tree_is : (nodes : List Node) (root n : ℕ) → IsNormal nodes root → n < length nodes → formula_at nodes n ≡ tree_by nodes (node_at nodes n)
unfolding node_trees
tree_is nodes root n normal l =
    let e = built_at node_tree [] nodes n n True truth l (zero_plus n) in
    e.is ∙ same_tree nodes e.before n (node_at nodes n) (λ i k. e.same i k) (normal.below n True l)
  where
    zero_plus : (n : ℕ) → n ≡ 0 + n
    zero_plus n = omega arith

-- ---- rows

same_raw : (rows before : List Row) (n : ℕ) (node : Node) → ((i : ℕ) → i < n → get_or before i None ≡ row_at rows i) → IsNodeAt n node → raw_of before n node ≡ raw_of rows n node
same_raw rows before n True h b = refl
same_raw rows before n False h b = refl
same_raw rows before n (Lit signal positive) h b = refl
same_raw rows before n (And f g) h b = ap (λ r. with_two products r (get_or before g None)) (h f b.0) ∙ ap (with_two products (row_at rows f)) (h g b.1)
same_raw rows before n (Or f g) h b = ap (λ r. with_two ◌++◌ r (get_or before g None)) (h f b.0) ∙ ap (with_two ◌++◌ (row_at rows f)) (h g b.1)
same_raw rows before n (Next f) h b = refl
same_raw rows before n (Until f g) h b = ap (λ r. with_two (until_raw n) r (get_or before g None)) (h f b.0) ∙ ap (with_two (until_raw n) (row_at rows f)) (h g b.1)
same_raw rows before n (Release f g) h b = ap (λ r. with_two (release_raw n) r (get_or before g None)) (h f b.0) ∙ ap (with_two (release_raw n) (row_at rows f)) (h g b.1)

pub row_is : (nodes : List Node) (root n : ℕ) → IsNormal nodes root → n < length nodes → row_at (rows_of nodes) n ≡ reduced_row (opposites nodes) (raw_of (rows_of nodes) n (node_at nodes n))
unfolding rows_of rows_after
row_is nodes root n normal l =
    let e = built_at (λ rs node. reduced_row (opposites nodes) (raw_of rs (length rs) node)) [] nodes n n True None l (zero_plus n) in
    e.is ∙ ap (λ m. reduced_row (opposites nodes) (raw_of e.before m (node_at nodes n))) e.each
    ∙ ap (reduced_row (opposites nodes)) (same_raw (rows_of nodes) e.before n (node_at nodes n) (λ i k. e.same i k) (normal.below n True l))
  where
    zero_plus : (n : ℕ) → n ≡ 0 + n
    zero_plus n = omega arith

pub rows_each : (nodes : List Node) → length (rows_of nodes) ≡ length nodes
unfolding rows_of rows_after
rows_each nodes = each [] nodes ∙ omega arith
  where
    each : (acc : List Row) (xs : List Node) → length (fold (λ rs node. rs ++ reduced_row (opposites nodes) (raw_of rs (length rs) node) ∷ []) acc xs) ≡ length acc + length xs
    each acc [] = omega arith
    each acc (x ∷ xs) = each (acc ++ reduced_row (opposites nodes) (raw_of acc (length acc) x) ∷ []) xs ∙ omega (arith, length_push acc (reduced_row (opposites nodes) (raw_of acc (length acc) x)))
