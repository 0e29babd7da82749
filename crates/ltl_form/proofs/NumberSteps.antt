-- What forms have numbers, one more at a time.
use Rattle.std.proofs.Common.{Bool, true, false, nat_eq, ◌≡◌, ℕ, ◌+◌, ◌<◌, ◌≤◌, max, List, length, get_or, set, Some, None, refl, ap, sym, ◌∙◌, subst, arith}
use borrow.Author.Tests.{eqb-true, eqb-false}
use Rattle.std.proofs.lemmas.List.{get_or-set_same, get_or-set_other, length-set}
use Rattle.std.specs.Prelude.{Result, Ok, Err, IsErrAnd, IfErr}
use Rattle.ltl_form.specs.declared.forms.Form.{Form}
use Rattle.ltl_form.specs.declared.normals.FormError.{FormError}
use Rattle.ltl_form.specs.declared.normals.FormError.TheVariants.{TooManyFormulas}
use Rattle.ltl_form.specs.declared.normals.Node.{Node}
use Rattle.ltl_form.specs.declared.normals.Node.TheVariants.{Next}
use Rattle.ltl_form.specs.Tree.{Tree, truth, following}
use Rattle.ltl_form.specs.Form.{tree_at}
use Rattle.ltl_form.specs.Normal.{IsNodeAt}
use Rattle.ltl_form.specs.NodeTrees.{node_tree, node_trees, formula_at}
use Rattle.ltl_form.specs.Numbered.{with_tree, numbered, height}
use Rattle.ltl_form.specs.Numbering.{NumberingData, AreOf, Numbers, NumbersTwo, NumbersInside, Puts, operands_numbered}
use Rattle.ltl_form.proofs.NumberLemmas.{grown, numbered_is, with_longer, with_same, operands_longer, height_some}
use Rattle.ltl_form.proofs.NodeLists.{IsNodeList, node_trees-length, numbered_again}

-- an error that is passed on
pub too_many : {T : Type 0} (r : Result T FormError) (x : FormError) (P : Type 0) → IsErrAnd r (λ e. e ≡ x) → (x ≡ TooManyFormulas → P) → IfErr r (λ e. e ≡ TooManyFormulas → P)
too_many (Ok v) x P h k = tt
too_many (Err y) x P h k = λ e. k (sym h ∙ e)

-- a form that has a number
pub numbers_known : (forms : List Form) (now : NumberingData) (at n : ℕ) → IsNodeList now.nodes → AreOf forms now → get_or now.numbers at None ≡ Some n → Numbers forms now now at n
numbers_known forms now at n ok are is =
    let k = are at n is in
    record {
      place = k.0;
      tree = k.1;
      trees = sym (ap (λ t. numbered t (node_trees now.nodes)) (sym k.1) ∙ numbered_again now.nodes ok n k.0);
      are = are;
      places = refl;
    }

module _ (forms : List Form) (old mid new : NumberingData) where
  pub numbers_put : (at : ℕ) (node : Node) (n : ℕ) → at < length old.numbers → NumbersInside forms old mid at node → Puts mid new at node n → Numbers forms old new at n
  numbers_put at node n within i p = record {
    place = p.place;
    tree = p.tree ∙ i.tree;
    trees = p.trees ∙ ap (with_tree (node_trees mid.nodes)) i.tree ∙ ap (λ us. with_tree us (tree_at forms at)) i.trees ∙ sym (numbered_is (tree_at forms at) (node_trees old.nodes));
    are = λ a m e. by a m (nat_eq a at) refl (sym (ap (λ l. get_or l a None) p.numbers) ∙ e);
    places = ap length p.numbers ∙ length-set mid.numbers at (Some n) ∙ i.places;
  }
    where
      t : Tree
      t = node_tree (node_trees mid.nodes) node

      longer : length mid.nodes ≤ length new.nodes
      longer = omega (arith, with_longer (node_trees mid.nodes) t, ap length p.trees, node_trees-length mid.nodes, node_trees-length new.nodes)

      same : (k : ℕ) → k < length mid.nodes → formula_at new.nodes k ≡ formula_at mid.nodes k
      same k l = ap (λ l. get_or l k truth) p.trees ∙ with_same (node_trees mid.nodes) t k truth (omega (arith, node_trees-length mid.nodes))

      by : (a m : ℕ) (b : Bool) → nat_eq a at ≡ b → get_or (set mid.numbers at (Some n)) a None ≡ Some m → (m < length new.nodes) × (formula_at new.nodes m ≡ tree_at forms a)
      by a m true e is =
          let here : a ≡ at = eqb-true a at e in
          let in_mid : at < length mid.numbers = omega (arith, i.places) in
          let number : Some n ≡ Some m = sym (get_or-set_same mid.numbers at (Some n) None in_mid) ∙ ap (λ k. get_or (set mid.numbers at (Some n)) k None) (sym here) ∙ is in
          let m_is : n ≡ m = cc in
          (subst (λ k. k < length new.nodes) m_is p.place, ap (formula_at new.nodes) (sym m_is) ∙ p.tree ∙ i.tree ∙ ap (tree_at forms) (sym here))
      by a m false e is =
          let k = i.are a m (sym (get_or-set_other mid.numbers at a (Some n) None (eqb-false a at e)) ∙ is) in
          (omega (arith, k.0, longer), same m k.0 ∙ k.1)

  pub numbers_two : (f g m n : ℕ) → Numbers forms old mid f m → Numbers forms mid new g n → NumbersTwo forms old new f g m n
  numbers_two f g m n a b =
      let more = grown (tree_at forms g) (node_trees mid.nodes) in
      let longer : length mid.nodes ≤ length new.nodes = omega (arith, more.longer, ap length b.trees, node_trees-length mid.nodes, node_trees-length new.nodes) in
      let in_trees : m < length (node_trees mid.nodes) = omega (arith, a.place, node_trees-length mid.nodes) in
      record {
        left = omega (arith, a.place, longer);
        right = b.place;
        left_tree = ap (λ l. get_or l m truth) b.trees ∙ more.same m truth in_trees ∙ a.tree;
        right_tree = b.tree;
        trees = b.trees ∙ ap (numbered (tree_at forms g)) a.trees;
        are = b.are;
        places = b.places ∙ a.places;
      }

module _ (forms : List Form) (old new : NumberingData) (at : ℕ) where
  pub inside_none : (node : Node) (t : Tree) → tree_at forms at ≡ t → node_tree (node_trees old.nodes) node ≡ t → operands_numbered t (node_trees old.nodes) ≡ node_trees old.nodes
      → IsNodeAt (length old.nodes) node → AreOf forms old → NumbersInside forms old old at node
  inside_none node t is made none fits are = record {
    fits = fits;
    tree = made ∙ sym is;
    trees = sym (ap (λ t. operands_numbered t (node_trees old.nodes)) is ∙ none);
    are = are;
    places = refl;
  }

  pub inside_one : (f n : ℕ) → tree_at forms at ≡ following (tree_at forms f) → Numbers forms old new f n → NumbersInside forms old new at (Next n)
  inside_one f n is h = record {
    fits = h.place;
    tree = ap following h.tree ∙ sym is;
    trees = h.trees ∙ sym (ap (λ t. operands_numbered t (node_trees old.nodes)) is);
    are = h.are;
    places = h.places;
  }

  pub inside_two : (op : Tree → Tree → Tree) (node : Node) (f g m n : ℕ) → tree_at forms at ≡ op (tree_at forms f) (tree_at forms g)
      → node_tree (node_trees new.nodes) node ≡ op (formula_at new.nodes m) (formula_at new.nodes n)
      → ((t u : Tree) → operands_numbered (op t u) (node_trees old.nodes) ≡ numbered u (numbered t (node_trees old.nodes)))
      → ((m < length new.nodes) × (n < length new.nodes) → IsNodeAt (length new.nodes) node)
      → NumbersTwo forms old new f g m n → NumbersInside forms old new at node
  inside_two op node f g m n is made parts fits h = record {
    fits = fits (h.left, h.right);
    tree = made ∙ ap (λ t. op t (formula_at new.nodes n)) h.left_tree ∙ ap (op (tree_at forms f)) h.right_tree ∙ sym is;
    trees = h.trees ∙ sym (parts (tree_at forms f) (tree_at forms g)) ∙ sym (ap (λ t. operands_numbered t (node_trees old.nodes)) is);
    are = h.are;
    places = h.places;
  }

  pub over_left : (depth f g : ℕ) → 512 < max (length (numbered (tree_at forms f) (node_trees old.nodes))) (depth + height (tree_at forms f))
      → 512 < max (length (numbered (tree_at forms g) (numbered (tree_at forms f) (node_trees old.nodes)))) (depth + max (height (tree_at forms f)) (height (tree_at forms g)))
  over_left depth f g h =
      let longer = (grown (tree_at forms g) (numbered (tree_at forms f) (node_trees old.nodes))).longer in
      more _ _ depth (height (tree_at forms f)) (height (tree_at forms g)) longer h
    where
      more : (l m d j k : ℕ) → l ≤ m → 512 < max l (d + j) → 512 < max m (d + max j k)
      more l m d j k e h = omega arith

  pub over_deep : (depth : ℕ) → depth ≡ 512 → 512 < max (length (numbered (tree_at forms at) (node_trees old.nodes))) (depth + height (tree_at forms at))
  over_deep depth is = deep _ depth _ is (height_some (tree_at forms at))
    where
      deep : (l d k : ℕ) → d ≡ 512 → 0 < k → 512 < max l (d + k)
      deep l d k e h = omega arith

  pub over_inside : (depth : ℕ) → 512 < max (length (operands_numbered (tree_at forms at) (node_trees old.nodes))) (depth + height (tree_at forms at))
      → 512 < max (length (numbered (tree_at forms at) (node_trees old.nodes))) (depth + height (tree_at forms at))
  over_inside depth h = more _ _ _ (operands_longer (tree_at forms at) (node_trees old.nodes)) h
    where
      more : (l m d : ℕ) → l ≤ m → 512 < max l d → 512 < max m d
      more l m d e h = omega arith

  pub over_put : (depth : ℕ) (node : Node) → NumbersInside forms old new at node → 512 < length (with_tree (node_trees new.nodes) (node_tree (node_trees new.nodes) node))
      → 512 < max (length (numbered (tree_at forms at) (node_trees old.nodes))) (depth + height (tree_at forms at))
  over_put depth node i h =
      more _ _ _ (ap length (ap (with_tree (node_trees new.nodes)) i.tree ∙ ap (λ us. with_tree us (tree_at forms at)) i.trees ∙ sym (numbered_is (tree_at forms at) (node_trees old.nodes)))) h
    where
      more : (l m d : ℕ) → l ≡ m → 512 < l → 512 < max m d
      more l m d e h = omega arith
