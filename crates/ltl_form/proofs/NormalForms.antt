-- The formulas of a normal form by number.
use Rattle.std.proofs.Common.{Bool, true, false, nat_lt, ◌≡◌, ℕ, ◌+◌, ◌<◌, ◌≤◌, max, All, List, [], ◌∷◌, ◌++◌, length, get_or, refl, ap, sym, ◌∙◌, subst, arith}
use borrow.Author.Tests.{ltb-true, ltb-false}
use Rattle.std.proofs.lemmas.List.{get_or_default, get_or_push, length_push}
use Rattle.ltl_form.specs.declared.forms.Form.{Form}
use Rattle.ltl_form.specs.declared.normals.Node.{Node}
use Rattle.ltl_form.specs.declared.normals.Node.TheVariants.{True, False, Lit, And, Or, Next, Until, Release}
use Rattle.ltl_form.specs.Tree.{Tree, truth, tree_below}
use Rattle.ltl_form.specs.Form.{tree_at}
use Rattle.ltl_form.specs.Normal.{IsNormal, IsLiteralBelow, LiteralsBelow}
use Rattle.ltl_form.specs.NodeTrees.{node_tree, node_trees, formula_at}
use Rattle.ltl_form.specs.Numbered.{numbered, height}
use Rattle.ltl_form.specs.Numbering.{NumberingData, IsNumbered, Numbers, operands_numbered}
use Rattle.ltl_form.proofs.NumberLemmas.{numbered_last, height_within, all_below}
use Rattle.ltl_form.proofs.NodeLists.{node_trees-nil, node_trees-length, formula_at-is}

-- more than 512 formulas have no numbers yet, or are nested
pub too_many_numbers : (t : Tree) (old : List Node) → old ≡ [] → 512 < max (length (numbered t (node_trees old))) (0 + height t) → 512 < length (numbered t [])
too_many_numbers t old none h = least _ _ _ (ap (λ l. length (numbered t l)) (ap node_trees none ∙ node_trees-nil)) (height_within t) h
  where
    least : (l m k : ℕ) → l ≡ m → k ≤ m → 512 < max l (0 + k) → 512 < m
    least l m k e i h = omega arith

module _ (forms : List Form) (old new : NumberingData) (at n : ℕ) (t : Tree) (none : old.nodes ≡ []) (is : tree_at forms at ≡ t)
    (numbers : Numbers forms old new at n) (known : IsNumbered new.nodes) where
  pub trees_are : node_trees new.nodes ≡ numbered t []
  trees_are = numbers.trees ∙ ap (λ u. numbered u (node_trees old.nodes)) is ∙ ap (numbered t) (ap node_trees none ∙ node_trees-nil)

  pub root_is : formula_at new.nodes n ≡ t
  root_is = numbers.tree ∙ is

  pub few_trees : length (numbered t []) ≤ 512
  few_trees = omega (arith, ap length trees_are, node_trees-length new.nodes, known.few)

  root_last : n + 1 ≡ length new.nodes
  root_last = go (nat_lt (n + 1) (length new.nodes)) refl
    where
      before : List Tree
      before = operands_numbered t []

      cut : node_trees new.nodes ≡ before ++ t ∷ []
      cut = trees_are ∙ numbered_last t

      long : length before + 1 ≡ length new.nodes
      long = omega (arith, ap length cut, length_push before t, node_trees-length new.nodes)

      last_is : get_or (node_trees new.nodes) (length before) truth ≡ t
      last_is = ap (λ l. get_or l (length before) truth) cut ∙ get_or_push before t truth (length before) refl

      go : (b : Bool) → nat_lt (n + 1) (length new.nodes) ≡ b → n + 1 ≡ length new.nodes
      go false e = let l : length new.nodes ≤ n + 1 = ltb-false (n + 1) (length new.nodes) e in omega (arith, numbers.place)
      go true e =
          let l : n + 1 < length new.nodes = ltb-true (n + 1) (length new.nodes) e in
          absurd (known.distinct n (length before) truth (omega (arith, long)) (omega (arith, long, node_trees-length new.nodes)) (root_is ∙ sym last_is))

  pub is_normal : IsNormal new.nodes n
  is_normal = record { last = root_last; few = known.few; below = known.below }

  pub literals_low : (m : ℕ) → tree_below m t ≡ true → LiteralsBelow m new.nodes
  literals_low m low k d l = literal (get_or new.nodes k d) (ap (tree_below m) (sym (formula_at-is new.nodes known.below k l ∙ ap (node_tree (node_trees new.nodes)) (get_or_default new.nodes k True d l))) ∙ in_low)
    where
      in_trees : k < length (node_trees new.nodes)
      in_trees = omega (arith, node_trees-length new.nodes)

      in_low : tree_below m (formula_at new.nodes k) ≡ true
      in_low = subst (All (λ u. tree_below m u ≡ true)) (sym trees_are) (all_below m t low) k truth in_trees

      literal : (x : Node) → tree_below m (node_tree (node_trees new.nodes) x) ≡ true → IsLiteralBelow m x
      literal True h = tt
      literal False h = tt
      literal (Lit signal positive) h = ltb-true signal m h
      literal (And f g) h = tt
      literal (Or f g) h = tt
      literal (Next f) h = tt
      literal (Until f g) h = tt
      literal (Release f g) h = tt
