-- The trees of numbered formulas, and the numbers of their operands.
use Rattle.std.proofs.Common.{Bool, true, false, if◌then◌else◌, nat_lt, ◌⊎◌, inl, inr, set, ◌≡◌, ℕ, zero, suc, ◌+◌, ◌<◌, ◌≤◌, List, [], ◌∷◌, ◌++◌, length, fold, get_or, take, drop, refl, ap, sym, ◌∙◌, subst, arith, rules, length-append, length-take}
use borrow.Author.Tests.{ltb-true, ltb-false}
use Rattle.std.specs.Prelude.{slice_get, Some}
use Rattle.std.specs.List.{list_any, Contains, Any}
use Rattle.indexmap.specs.IndexSet.{insert_key}
use Rattle.std.proofs.lemmas.Option.{slice_get_within, get_or_from_slice_get}
use Rattle.std.proofs.lemmas.List.{get_or_append_left, get_or_push, get_or_default, take-append-drop, drop_more, length_push}
use Rattle.std.proofs.lemmas.List.Folds.{Any-from_list_any, list_any_at}
use Rattle.ltl_form.specs.contracts.normals.NodePartialEq.TheImpl.{eq-value}
use Rattle.ltl_form.specs.declared.normals.Node.{Node}
use Rattle.ltl_form.specs.declared.normals.Node.TheVariants.{True, False, Lit, And, Or, Next, Until, Release}
use Rattle.ltl_form.specs.Tree.{Tree, truth, falsity, literal, conjoined, disjoined, following, until, release}
use Rattle.ltl_form.specs.Normal.{IsNodeAt}
use Rattle.ltl_form.specs.NodeTrees.{node_tree, node_trees, formula_at}
use Rattle.ltl_form.specs.Numbering.{NumberingData, IsNumbered, Puts, operands_numbered}
use Rattle.ltl_form.specs.Numbered.{same_tree, has_tree, with_tree, numbered, AreDistinct}
use Rattle.ltl_form.proofs.NumberLemmas.{with_same, same_tree_is, same_tree_self, has_contains, contains_has, with_again, with_new, with_distinct, numbered_is}

abbrev pub IsNodeList : List Node → Type 0
IsNodeList nodes = (n : ℕ) (d : Node) → n < length nodes → IsNodeAt n (get_or nodes n d)

-- the trees of formulas, after those of earlier ones
from : List Tree → List Node → List Tree
from trees nodes = fold (λ ts node. ts ++ node_tree ts node ∷ []) trees nodes

from-push : (ts : List Tree) (nodes : List Node) (node : Node) → from ts (nodes ++ node ∷ []) ≡ from ts nodes ++ node_tree (from ts nodes) node ∷ []
unfolding from
from-push ts [] node = refl
from-push ts (x ∷ xs) node = from-push (ts ++ node_tree ts x ∷ []) xs node

from-join : (ts : List Tree) (a b : List Node) → from ts (a ++ b) ≡ from (from ts a) b
unfolding from
from-join ts [] b = refl
from-join ts (x ∷ xs) b = from-join (ts ++ node_tree ts x ∷ []) xs b

from-step : (ts : List Tree) (x : Node) (b : List Node) → from ts (x ∷ b) ≡ from (ts ++ node_tree ts x ∷ []) b
unfolding from
from-step ts x b = refl

from-length : (ts : List Tree) (nodes : List Node) → length (from ts nodes) ≡ length ts + length nodes
unfolding from
from-length ts [] = omega arith
from-length ts (x ∷ xs) = omega (arith, from-length (ts ++ node_tree ts x ∷ []) xs, length-append ts (node_tree ts x ∷ []))

from-before : (ts : List Tree) (nodes : List Node) (at : ℕ) (d : Tree) → at < length ts → get_or (from ts nodes) at d ≡ get_or ts at d
unfolding from
from-before ts [] at d h = refl
from-before ts (x ∷ xs) at d h =
    let longer : at < length (ts ++ node_tree ts x ∷ []) = omega (arith, length-append ts (node_tree ts x ∷ [])) in
    from-before (ts ++ node_tree ts x ∷ []) xs at d longer ∙ get_or_append_left ts (node_tree ts x ∷ []) d at h

trees-from : (nodes : List Node) → node_trees nodes ≡ from [] nodes
unfolding from node_trees
trees-from nodes = refl

pub node_trees-nil : node_trees [] ≡ []
unfolding node_trees
node_trees-nil = refl

pub node_trees-push : (nodes : List Node) (node : Node) → node_trees (nodes ++ node ∷ []) ≡ node_trees nodes ++ node_tree (node_trees nodes) node ∷ []
unfolding from node_trees
node_trees-push nodes node = from-push [] nodes node

pub node_trees-length : (nodes : List Node) → length (node_trees nodes) ≡ length nodes
unfolding from node_trees
node_trees-length nodes = omega (arith, from-length [] nodes)

-- over two lists of trees that agree below n, a formula whose operands lie below n has one tree
pub node_tree-same : (ts us : List Tree) (n : ℕ) (node : Node) → IsNodeAt n node
    → ((at : ℕ) → at < n → get_or us at truth ≡ get_or ts at truth) → node_tree us node ≡ node_tree ts node
node_tree-same ts us n True h same = refl
node_tree-same ts us n False h same = refl
node_tree-same ts us n (Lit signal positive) h same = refl
node_tree-same ts us n (And f g) h same = rw (same f h.0, same g h.1) refl
node_tree-same ts us n (Or f g) h same = rw (same f h.0, same g h.1) refl
node_tree-same ts us n (Next f) h same = rw (same f h) refl
node_tree-same ts us n (Until f g) h same = rw (same f h.0, same g h.1) refl
node_tree-same ts us n (Release f g) h same = rw (same f h.0, same g h.1) refl

from-at : (nodes : List Node) → IsNodeList nodes → (n : ℕ) → n < length nodes → get_or (from [] nodes) n truth ≡ node_tree (from [] nodes) (get_or nodes n True)
from-at nodes ok n h =
    let x : Node = get_or nodes n True in
    let a : List Node = take n nodes in
    let b : List Node = drop (n + 1) nodes in
    let cut : nodes ≡ a ++ (x ∷ b) = sym (take-append-drop n nodes) ∙ ap (λ l. a ++ l) (drop_more nodes n True h) in
    let la : length (from [] a) ≡ n = omega (arith, from-length [] a, length-take n nodes) in
    let ts : List Tree = from [] a in
    let y : Tree = node_tree ts x in
    let all : from [] nodes ≡ from (ts ++ y ∷ []) b = ap (from []) cut ∙ from-join [] a (x ∷ b) ∙ from-step ts x b in
    let here : get_or (from (ts ++ y ∷ []) b) n truth ≡ y =
    from-before (ts ++ y ∷ []) b n truth (omega (arith, length-append ts (y ∷ []))) ∙ get_or_push ts y truth n la in
    let agree : (k : ℕ) → k < n → get_or (from [] nodes) k truth ≡ get_or ts k truth =
    λ k l. ap (λ l. get_or l k truth) all ∙ from-before (ts ++ y ∷ []) b k truth (omega (arith, length-append ts (y ∷ [])))
    ∙ get_or_append_left ts (y ∷ []) truth k (omega arith) in
    ap (λ l. get_or l n truth) all ∙ here ∙ sym (node_tree-same ts (from [] nodes) n x (ok n True h) agree)

-- the tree of formula n is that of its node
pub formula_at-is : (nodes : List Node) → IsNodeList nodes → (n : ℕ) → n < length nodes → formula_at nodes n ≡ node_tree (node_trees nodes) (get_or nodes n True)
unfolding from node_trees
formula_at-is nodes ok n h = from-at nodes ok n h

-- the place of a tree among trees
place : List Tree → Tree → ℕ
place [] t = 0
place (u ∷ us) t = if same_tree t u then 0 else suc (place us t)

tail_distinct : (u : Tree) (us : List Tree) → AreDistinct (u ∷ us) → AreDistinct us
tail_distinct u us h m n d l in_n same = h (suc m) (suc n) d (omega arith) (omega arith) same

place_at : (ts : List Tree) (k : ℕ) → AreDistinct ts → k < length ts → place ts (get_or ts k truth) ≡ k
unfolding place
place_at [] k h l = absurd (omega arith)
place_at (u ∷ us) zero h l = ap (λ b. if b then 0 else suc (place us u)) (same_tree_self u)
place_at (u ∷ us) (suc k) h l = go (same_tree (get_or us k truth) u) refl (place_at us k (tail_distinct u us h) (omega arith))
  where
    go : (b : Bool) → same_tree (get_or us k truth) u ≡ b → place us (get_or us k truth) ≡ k → (if b then 0 else suc (place us (get_or us k truth))) ≡ suc k
    go false e r = ap suc r
    go true e r = absurd (h 0 (suc k) truth (omega arith) l (sym (same_tree_is (get_or us k truth) u e)))

-- the formula of a tree
node_of : List Tree → Tree → Node
node_of ts truth = True
node_of ts falsity = False
node_of ts (literal x b) = Lit x b
node_of ts (conjoined f g) = And (place ts f) (place ts g)
node_of ts (disjoined f g) = Or (place ts f) (place ts g)
node_of ts (following f) = Next (place ts f)
node_of ts (until f g) = Until (place ts f) (place ts g)
node_of ts (release f g) = Release (place ts f) (place ts g)

node_again : (ts : List Tree) → AreDistinct ts → (x : Node) → IsNodeAt (length ts) x → node_of ts (node_tree ts x) ≡ x
unfolding node_of
node_again ts h True fits = refl
node_again ts h False fits = refl
node_again ts h (Lit signal positive) fits = refl
node_again ts h (And f g) fits = rw (place_at ts f h fits.0, place_at ts g h fits.1) refl
node_again ts h (Or f g) fits = rw (place_at ts f h fits.0, place_at ts g h fits.1) refl
node_again ts h (Next f) fits = rw (place_at ts f h fits) refl
node_again ts h (Until f g) fits = rw (place_at ts f h fits.0, place_at ts g h fits.1) refl
node_again ts h (Release f g) fits = rw (place_at ts f h fits.0, place_at ts g h fits.1) refl

same_node : (ts : List Tree) → AreDistinct ts → (x y : Node) → IsNodeAt (length ts) x → IsNodeAt (length ts) y → node_tree ts x ≡ node_tree ts y → x ≡ y
same_node ts h x y in_x in_y same = sym (node_again ts h x in_x) ∙ ap (node_of ts) same ∙ node_again ts h y in_y

-- a formula at a further number
pub node_more : (n : ℕ) (m : ℕ) (node : Node) → IsNodeAt n node → n ≤ m → IsNodeAt m node
node_more n m True h l = tt
node_more n m False h l = tt
node_more n m (Lit signal positive) h l = h
node_more n m (And f g) h l = (omega (arith, h.0), omega (arith, h.1))
node_more n m (Or f g) h l = (omega (arith, h.0), omega (arith, h.1))
node_more n m (Next f) h l = omega (arith, h)
node_more n m (Until f g) h l = (omega (arith, h.0), omega (arith, h.1))
node_more n m (Release f g) h l = (omega (arith, h.0), omega (arith, h.1))

pub nodes_push : (nodes : List Node) (node : Node) → IsNodeList nodes → IsNodeAt (length nodes) node → IsNodeList (nodes ++ node ∷ [])
nodes_push nodes node ok fits n d h = by (nat_lt n (length nodes)) refl
  where
    by : (b : Bool) → nat_lt n (length nodes) ≡ b → IsNodeAt n (get_or (nodes ++ node ∷ []) n d)
    by true e =
        let l : n < length nodes = ltb-true n (length nodes) e in
        rw (get_or_append_left nodes (node ∷ []) d n l) (ok n d l)
    by false e =
        let l : length nodes ≤ n = ltb-false n (length nodes) e in
        let i : length nodes ≡ n = omega (arith, length-append nodes (node ∷ [])) in
        rw (get_or_push nodes node d n i) (subst (λ k. IsNodeAt k node) i fits)

eq_is : (x y : Node) → eq-value.it x y ≡ true → x ≡ y
eq_is x y = search rules

eq_self : (x : Node) → eq-value.it x x ≡ true
eq_self x = search rules

module _ (nodes : List Node) (node : Node) (ok : IsNodeList nodes) (distinct : AreDistinct (node_trees nodes)) (fits : IsNodeAt (length nodes) node) where
  fits_in : (x : Node) → IsNodeAt (length nodes) x → IsNodeAt (length (node_trees nodes)) x
  fits_in x h = subst (λ n. IsNodeAt n x) (sym (node_trees-length nodes)) h

  -- a formula is in the list where its tree is among the trees
  pub known : list_any (eq-value.it node) nodes ≡ has_tree (node_trees nodes) (node_tree (node_trees nodes) node)
  known = go (list_any (eq-value.it node) nodes) refl (has_tree ts t) refl
    where
      ts : List Tree
      ts = node_trees nodes

      t : Tree
      t = node_tree (node_trees nodes) node

      tree_in : Any (λ x. eq-value.it node x ≡ true) nodes → Contains (node_trees nodes) (node_tree (node_trees nodes) node)
      tree_in a =
          let l : a.0 < length (node_trees nodes) = omega (arith, a.2, node_trees-length nodes) in
          let x_is : get_or nodes a.0 True ≡ node = get_or_default nodes a.0 True a.1 a.2 ∙ a.3 ∙ sym (eq_is node a.1 a.4) in
          (a.0, l, get_or_default (node_trees nodes) a.0 _ truth l ∙ formula_at-is nodes ok a.0 a.2 ∙ ap (node_tree (node_trees nodes)) x_is)

      node_in : Contains (node_trees nodes) (node_tree (node_trees nodes) node) → list_any (eq-value.it node) nodes ≡ true
      node_in c =
          let l : c.0 < length nodes = omega (arith, c.1, node_trees-length nodes) in
          let x : Node = get_or nodes c.0 True in
          let same : node_tree (node_trees nodes) node ≡ node_tree (node_trees nodes) x = sym c.2 ∙ get_or_default (node_trees nodes) c.0 _ truth c.1 ∙ formula_at-is nodes ok c.0 l in
          let x_is : node ≡ x = same_node (node_trees nodes) distinct node x (fits_in node fits) (fits_in x (node_more c.0 (length nodes) x (ok c.0 True l) (omega arith))) same in
          list_any_at (eq-value.it node) nodes c.0 True l (subst (λ y. eq-value.it node y ≡ true) x_is (eq_self node))

      go : (a : Bool) → list_any (eq-value.it node) nodes ≡ a → (b : Bool) → has_tree (node_trees nodes) (node_tree (node_trees nodes) node) ≡ b
          → list_any (eq-value.it node) nodes ≡ has_tree (node_trees nodes) (node_tree (node_trees nodes) node)
      go true e true f = e ∙ sym f
      go false e false f = e ∙ sym f
      go true e false f = e ∙ sym (contains_has _ _ (tree_in (Any-from_list_any (eq-value.it node) nodes e)))
      go false e true f = node_in (has_contains _ _ f) ∙ sym f

  pub inserted_trees : node_trees (insert_key eq-value.it nodes node) ≡ with_tree (node_trees nodes) (node_tree (node_trees nodes) node)
  inserted_trees = go (list_any (eq-value.it node) nodes) refl
    where
      go : (b : Bool) → list_any (eq-value.it node) nodes ≡ b → node_trees (if b then nodes else nodes ++ node ∷ []) ≡ with_tree (node_trees nodes) (node_tree (node_trees nodes) node)
      go true e = sym (with_again _ _ (sym known ∙ e))
      go false e = node_trees-push nodes node ∙ sym (with_new _ _ (sym known ∙ e))

  pub inserted_ok : IsNodeList (insert_key eq-value.it nodes node)
  inserted_ok = go (list_any (eq-value.it node) nodes)
    where
      go : (b : Bool) → IsNodeList (if b then nodes else nodes ++ node ∷ [])
      go true = ok
      go false = nodes_push nodes node ok fits

  pub inserted_distinct : AreDistinct (node_trees (insert_key eq-value.it nodes node))
  inserted_distinct = subst AreDistinct (sym inserted_trees) (with_distinct _ _ distinct)

  inserted_at : (n : ℕ) (k : Node) → slice_get (insert_key eq-value.it nodes node) n ≡ Some k → eq-value.it node k ≡ true
      → formula_at (insert_key eq-value.it nodes node) n ≡ node_tree (node_trees nodes) node
  inserted_at n k there e =
      let new : List Node = insert_key eq-value.it nodes node in
      let here : get_or new n True ≡ node = get_or_from_slice_get new n k True there ∙ sym (eq_is node k e) in
      let agree : (i : ℕ) → i < length nodes → get_or (node_trees new) i truth ≡ get_or (node_trees nodes) i truth =
      λ i l. ap (λ ts. get_or ts i truth) inserted_trees ∙ with_same (node_trees nodes) _ i truth (omega (arith, node_trees-length nodes)) in
      formula_at-is new inserted_ok n (slice_get_within new n k there) ∙ ap (node_tree (node_trees new)) here
      ∙ node_tree-same (node_trees nodes) (node_trees new) (length nodes) node fits agree

  insert_length : length (insert_key eq-value.it nodes node) ≤ length nodes + 1
  insert_length = go (list_any (eq-value.it node) nodes)
    where
      go : (b : Bool) → length (if b then nodes else nodes ++ node ∷ []) ≤ length nodes + 1
      go true = omega arith
      go false = omega (arith, length_push nodes node)

  insert_known : list_any (eq-value.it node) nodes ≡ true → length (insert_key eq-value.it nodes node) ≡ length nodes
  insert_known h = ap (λ b. length (if b then nodes else nodes ++ node ∷ [])) h

  pub over_full : list_any (eq-value.it node) nodes ≡ false → length nodes ≡ 512 → 512 < length (with_tree (node_trees nodes) (node_tree (node_trees nodes) node))
  over_full h full =
      let ts : List Tree = node_trees nodes in
      let t : Tree = node_tree ts node in
      omega (arith, ap length (with_new ts t (sym known ∙ h)), length_push ts t, node_trees-length nodes)

  pub inserted_few : (list_any (eq-value.it node) nodes ≡ true) ⊎ (length nodes < 512) → length nodes ≤ 512 → length (insert_key eq-value.it nodes node) ≤ 512
  inserted_few (inl h) few = omega (arith, insert_known h)
  inserted_few (inr h) few = omega (arith, insert_length)

  pub inserted : (list_any (eq-value.it node) nodes ≡ true) ⊎ (length nodes < 512) → length nodes ≤ 512 → IsNumbered (insert_key eq-value.it nodes node)
  inserted h few = record { few = inserted_few h few; below = inserted_ok; distinct = inserted_distinct }

pub numbered_nil : (nodes : List Node) → nodes ≡ [] → IsNumbered nodes
numbered_nil nodes none = subst IsNumbered (sym none) record {
  few = omega arith;
  below = λ n d l. absurd (omega arith);
  distinct = λ m n d l in_n same. let none : length (node_trees []) ≡ 0 = node_trees-length [] in absurd (omega arith);
}

-- a formula is put to those that have numbers
pub puts : (old new : NumberingData) (at : ℕ) (node : Node) (n : ℕ) → IsNumbered old.nodes → IsNodeAt (length old.nodes) node → new.nodes ≡ insert_key eq-value.it old.nodes node
    → (k : Node) → slice_get new.nodes n ≡ Some k → eq-value.it node k ≡ true → new.numbers ≡ set old.numbers at (Some n) → Puts old new at node n
puts old new at node n known fits is k there e numbers = record {
  place = slice_get_within new.nodes n k there;
  tree = ap (λ l. formula_at l n) is ∙ inserted_at old.nodes node known.below known.distinct fits n k (subst (λ l. slice_get l n ≡ Some k) is there) e;
  trees = ap node_trees is ∙ inserted_trees old.nodes node known.below known.distinct fits;
  numbers = numbers;
}

-- a formula that has a number changes no number
operands_again : (ts : List Tree) (n : ℕ) (x : Node) → IsNodeAt n x → ((k : ℕ) → k < n → numbered (get_or ts k truth) ts ≡ ts) → operands_numbered (node_tree ts x) ts ≡ ts
operands_again ts n True h same = refl
operands_again ts n False h same = refl
operands_again ts n (Lit signal positive) h same = refl
operands_again ts n (And f g) h same = ap (numbered (get_or ts g truth)) (same f h.0) ∙ same g h.1
operands_again ts n (Or f g) h same = ap (numbered (get_or ts g truth)) (same f h.0) ∙ same g h.1
operands_again ts n (Next f) h same = same f h
operands_again ts n (Until f g) h same = ap (numbered (get_or ts g truth)) (same f h.0) ∙ same g h.1
operands_again ts n (Release f g) h same = ap (numbered (get_or ts g truth)) (same f h.0) ∙ same g h.1

numbered_below : (nodes : List Node) → IsNodeList nodes → (m n : ℕ) → n < m → n < length nodes → numbered (formula_at nodes n) (node_trees nodes) ≡ node_trees nodes
numbered_below nodes ok zero n l in_n = absurd (omega arith)
numbered_below nodes ok (suc m) n l in_n =
    let ts : List Tree = node_trees nodes in
    let x : Node = get_or nodes n True in
    let is : formula_at nodes n ≡ node_tree ts x = formula_at-is nodes ok n in_n in
    let in_ts : n < length ts = omega (arith, node_trees-length nodes) in
    let has : has_tree ts (formula_at nodes n) ≡ true = contains_has ts (formula_at nodes n) (n, in_ts, get_or_default ts n _ truth in_ts) in
    let inner : operands_numbered (formula_at nodes n) ts ≡ ts =
    ap (λ t. operands_numbered t ts) is ∙ operands_again ts n x (ok n True in_n) (λ k h. numbered_below nodes ok m k (omega arith) (omega arith)) in
    numbered_is (formula_at nodes n) ts ∙ ap (λ us. with_tree us (formula_at nodes n)) inner ∙ with_again ts (formula_at nodes n) has

pub numbered_again : (nodes : List Node) → IsNodeList nodes → (n : ℕ) → n < length nodes → numbered (formula_at nodes n) (node_trees nodes) ≡ node_trees nodes
numbered_again nodes ok n l = numbered_below nodes ok (suc n) n (omega arith) l
