-- A normal form has one numbering: its formulas are fixed by their trees.
use Rattle.std.proofs.Common.{◌≡◌, ℕ, ◌<◌, ◌≤◌, Bool, true, false, nat_lt, List, length, get_or, refl, sym, ◌∙◌, ap, arith}
use borrow.Author.Tests.{ltb-true, ltb-false}
use Rattle.std.specs.Prelude.{slice_index_or}
use Rattle.std.proofs.lemmas.List.{same_lists, get_or_default}
use Rattle.ltl_form.specs.declared.normals.Node.{Node}
use Rattle.ltl_form.specs.declared.normals.Node.TheVariants.{True, False, Lit, And, Or, Next, Until, Release}
use Rattle.ltl_form.specs.Normal.{IsNodeAt, IsNormal}
use Rattle.ltl_form.specs.NodeTrees.{node_tree, node_trees}
use Rattle.ltl_form.specs.Numbered.{AreDistinct}
use Rattle.ltl_form.specs.Tree.{Tree, truth, falsity, literal, conjoined, disjoined, following, until, release}
use Rattle.ltl_form.proofs.NodeLists.{node_trees-length, formula_at-is}

-- trees at two places that are the same stand at one place
module _ (trees : List Tree) (distinct : AreDistinct trees) where
  one_place : (m n : ℕ) → m < length trees → n < length trees → slice_index_or trees m truth ≡ slice_index_or trees n truth → m ≡ n
  one_place m n lm ln same = by (nat_lt m n) refl (nat_lt n m) refl
    where
      by : (b : Bool) → nat_lt m n ≡ b → (c : Bool) → nat_lt n m ≡ c → m ≡ n
      by true e c f = absurd (distinct m n truth (ltb-true m n e) ln same)
      by false e true f = absurd (distinct n m truth (ltb-true n m f) lm (sym same))
      by false e false f = omega (arith, ltb-false m n e, ltb-false n m f)

abbrev first_part : Tree → Tree
first_part (conjoined f g) = f
first_part (disjoined f g) = f
first_part (following f) = f
first_part (until f g) = f
first_part (release f g) = f
first_part t = t

abbrev second_part : Tree → Tree
second_part (conjoined f g) = g
second_part (disjoined f g) = g
second_part (until f g) = g
second_part (release f g) = g
second_part t = t

abbrev kind_of : Tree → ℕ
kind_of truth = 0
kind_of falsity = 1
kind_of (literal x b) = 2
kind_of (conjoined f g) = 3
kind_of (disjoined f g) = 4
kind_of (following f) = 5
kind_of (until f g) = 6
kind_of (release f g) = 7

abbrev signal_in : Tree → ℕ
signal_in (literal x b) = x
signal_in t = 0

abbrev sign_in : Tree → Bool
sign_in (literal x b) = b
sign_in t = true

module _ (trees : List Tree) (distinct : AreDistinct trees) (n : ℕ) (within : n ≤ length trees) where
  abbrev at : ℕ → Tree
  at k = slice_index_or trees k truth

  place : (f g : ℕ) → f < n → g < n → at f ≡ at g → f ≡ g
  place f g lf lg same = one_place trees distinct f g (omega (arith, lf, within)) (omega (arith, lg, within)) same

  differ : (i j : ℕ) → i ≡ j → (i ≡ j → ⊥) → ⊥
  differ i j same apart = apart same

  one_node : (a b : Node) → IsNodeAt n a → IsNodeAt n b → node_tree trees a ≡ node_tree trees b → a ≡ b
  one_node True True la lb e = refl
  one_node False False la lb e = refl
  one_node (Lit x p) (Lit y q) la lb e = ap (λ z. Lit z p) (ap signal_in e) ∙ ap (λ z. Lit y z) (ap sign_in e)
  one_node (And f g) (And h k) la lb e = ap (λ z. And z g) (place f h la.0 lb.0 (ap first_part e)) ∙ ap (λ z. And h z) (place g k la.1 lb.1 (ap second_part e))
  one_node (Or f g) (Or h k) la lb e = ap (λ z. Or z g) (place f h la.0 lb.0 (ap first_part e)) ∙ ap (λ z. Or h z) (place g k la.1 lb.1 (ap second_part e))
  one_node (Next f) (Next h) la lb e = ap Next (place f h la lb (ap first_part e))
  one_node (Until f g) (Until h k) la lb e = ap (λ z. Until z g) (place f h la.0 lb.0 (ap first_part e)) ∙ ap (λ z. Until h z) (place g k la.1 lb.1 (ap second_part e))
  one_node (Release f g) (Release h k) la lb e = ap (λ z. Release z g) (place f h la.0 lb.0 (ap first_part e)) ∙ ap (λ z. Release h z) (place g k la.1 lb.1 (ap second_part e))
  one_node True False la lb e = absurd (differ 0 1 (ap kind_of e) (λ e. omega (arith, e)))
  one_node True (Lit y q) la lb e = absurd (differ 0 2 (ap kind_of e) (λ e. omega (arith, e)))
  one_node True (And h k) la lb e = absurd (differ 0 3 (ap kind_of e) (λ e. omega (arith, e)))
  one_node True (Or h k) la lb e = absurd (differ 0 4 (ap kind_of e) (λ e. omega (arith, e)))
  one_node True (Next h) la lb e = absurd (differ 0 5 (ap kind_of e) (λ e. omega (arith, e)))
  one_node True (Until h k) la lb e = absurd (differ 0 6 (ap kind_of e) (λ e. omega (arith, e)))
  one_node True (Release h k) la lb e = absurd (differ 0 7 (ap kind_of e) (λ e. omega (arith, e)))
  one_node False True la lb e = absurd (differ 1 0 (ap kind_of e) (λ e. omega (arith, e)))
  one_node False (Lit y q) la lb e = absurd (differ 1 2 (ap kind_of e) (λ e. omega (arith, e)))
  one_node False (And h k) la lb e = absurd (differ 1 3 (ap kind_of e) (λ e. omega (arith, e)))
  one_node False (Or h k) la lb e = absurd (differ 1 4 (ap kind_of e) (λ e. omega (arith, e)))
  one_node False (Next h) la lb e = absurd (differ 1 5 (ap kind_of e) (λ e. omega (arith, e)))
  one_node False (Until h k) la lb e = absurd (differ 1 6 (ap kind_of e) (λ e. omega (arith, e)))
  one_node False (Release h k) la lb e = absurd (differ 1 7 (ap kind_of e) (λ e. omega (arith, e)))
  one_node (Lit x p) True la lb e = absurd (differ 2 0 (ap kind_of e) (λ e. omega (arith, e)))
  one_node (Lit x p) False la lb e = absurd (differ 2 1 (ap kind_of e) (λ e. omega (arith, e)))
  one_node (Lit x p) (And h k) la lb e = absurd (differ 2 3 (ap kind_of e) (λ e. omega (arith, e)))
  one_node (Lit x p) (Or h k) la lb e = absurd (differ 2 4 (ap kind_of e) (λ e. omega (arith, e)))
  one_node (Lit x p) (Next h) la lb e = absurd (differ 2 5 (ap kind_of e) (λ e. omega (arith, e)))
  one_node (Lit x p) (Until h k) la lb e = absurd (differ 2 6 (ap kind_of e) (λ e. omega (arith, e)))
  one_node (Lit x p) (Release h k) la lb e = absurd (differ 2 7 (ap kind_of e) (λ e. omega (arith, e)))
  one_node (And f g) True la lb e = absurd (differ 3 0 (ap kind_of e) (λ e. omega (arith, e)))
  one_node (And f g) False la lb e = absurd (differ 3 1 (ap kind_of e) (λ e. omega (arith, e)))
  one_node (And f g) (Lit y q) la lb e = absurd (differ 3 2 (ap kind_of e) (λ e. omega (arith, e)))
  one_node (And f g) (Or h k) la lb e = absurd (differ 3 4 (ap kind_of e) (λ e. omega (arith, e)))
  one_node (And f g) (Next h) la lb e = absurd (differ 3 5 (ap kind_of e) (λ e. omega (arith, e)))
  one_node (And f g) (Until h k) la lb e = absurd (differ 3 6 (ap kind_of e) (λ e. omega (arith, e)))
  one_node (And f g) (Release h k) la lb e = absurd (differ 3 7 (ap kind_of e) (λ e. omega (arith, e)))
  one_node (Or f g) True la lb e = absurd (differ 4 0 (ap kind_of e) (λ e. omega (arith, e)))
  one_node (Or f g) False la lb e = absurd (differ 4 1 (ap kind_of e) (λ e. omega (arith, e)))
  one_node (Or f g) (Lit y q) la lb e = absurd (differ 4 2 (ap kind_of e) (λ e. omega (arith, e)))
  one_node (Or f g) (And h k) la lb e = absurd (differ 4 3 (ap kind_of e) (λ e. omega (arith, e)))
  one_node (Or f g) (Next h) la lb e = absurd (differ 4 5 (ap kind_of e) (λ e. omega (arith, e)))
  one_node (Or f g) (Until h k) la lb e = absurd (differ 4 6 (ap kind_of e) (λ e. omega (arith, e)))
  one_node (Or f g) (Release h k) la lb e = absurd (differ 4 7 (ap kind_of e) (λ e. omega (arith, e)))
  one_node (Next f) True la lb e = absurd (differ 5 0 (ap kind_of e) (λ e. omega (arith, e)))
  one_node (Next f) False la lb e = absurd (differ 5 1 (ap kind_of e) (λ e. omega (arith, e)))
  one_node (Next f) (Lit y q) la lb e = absurd (differ 5 2 (ap kind_of e) (λ e. omega (arith, e)))
  one_node (Next f) (And h k) la lb e = absurd (differ 5 3 (ap kind_of e) (λ e. omega (arith, e)))
  one_node (Next f) (Or h k) la lb e = absurd (differ 5 4 (ap kind_of e) (λ e. omega (arith, e)))
  one_node (Next f) (Until h k) la lb e = absurd (differ 5 6 (ap kind_of e) (λ e. omega (arith, e)))
  one_node (Next f) (Release h k) la lb e = absurd (differ 5 7 (ap kind_of e) (λ e. omega (arith, e)))
  one_node (Until f g) True la lb e = absurd (differ 6 0 (ap kind_of e) (λ e. omega (arith, e)))
  one_node (Until f g) False la lb e = absurd (differ 6 1 (ap kind_of e) (λ e. omega (arith, e)))
  one_node (Until f g) (Lit y q) la lb e = absurd (differ 6 2 (ap kind_of e) (λ e. omega (arith, e)))
  one_node (Until f g) (And h k) la lb e = absurd (differ 6 3 (ap kind_of e) (λ e. omega (arith, e)))
  one_node (Until f g) (Or h k) la lb e = absurd (differ 6 4 (ap kind_of e) (λ e. omega (arith, e)))
  one_node (Until f g) (Next h) la lb e = absurd (differ 6 5 (ap kind_of e) (λ e. omega (arith, e)))
  one_node (Until f g) (Release h k) la lb e = absurd (differ 6 7 (ap kind_of e) (λ e. omega (arith, e)))
  one_node (Release f g) True la lb e = absurd (differ 7 0 (ap kind_of e) (λ e. omega (arith, e)))
  one_node (Release f g) False la lb e = absurd (differ 7 1 (ap kind_of e) (λ e. omega (arith, e)))
  one_node (Release f g) (Lit y q) la lb e = absurd (differ 7 2 (ap kind_of e) (λ e. omega (arith, e)))
  one_node (Release f g) (And h k) la lb e = absurd (differ 7 3 (ap kind_of e) (λ e. omega (arith, e)))
  one_node (Release f g) (Or h k) la lb e = absurd (differ 7 4 (ap kind_of e) (λ e. omega (arith, e)))
  one_node (Release f g) (Next h) la lb e = absurd (differ 7 5 (ap kind_of e) (λ e. omega (arith, e)))
  one_node (Release f g) (Until h k) la lb e = absurd (differ 7 6 (ap kind_of e) (λ e. omega (arith, e)))

-- formulas are fixed by their trees
pub one_form : (nodes others : List Node) (root other : ℕ) → IsNormal nodes root → IsNormal others other → AreDistinct (node_trees nodes) → node_trees nodes ≡ node_trees others → nodes ≡ others
one_form nodes others root other is also distinct same = same_lists nodes others long each
  where
    long : length nodes ≡ length others
    long = sym (node_trees-length nodes) ∙ ap length same ∙ node_trees-length others

    at_true : (n : ℕ) → n < length nodes → get_or nodes n True ≡ get_or others n True
    at_true n l =
        let l' : n < length others = omega (arith, l, long) in
        let within : n ≤ length (node_trees nodes) = omega (arith, l, node_trees-length nodes) in
        one_node (node_trees nodes) distinct n within (get_or nodes n True) (get_or others n True) (is.below n True l) (also.below n True l')
        (sym (formula_at-is nodes is.below n l) ∙ ap (λ ts. slice_index_or ts n truth) same ∙ formula_at-is others also.below n l' ∙ ap (λ ts. node_tree ts (get_or others n True)) (sym same))

    each : (n : ℕ) (d : Node) → n < length nodes → get_or nodes n d ≡ get_or others n d
    each n d l =
        let l' : n < length others = omega (arith, l, long) in
        get_or_default nodes n d True l ∙ at_true n l ∙ get_or_default others n True d l'
