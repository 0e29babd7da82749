-- Numbers of formulas, in the order of their first occurrence.
use Rattle.std.specs.Prelude.{◌≡◌, ℕ, ◌<◌, ◌≤◌, List, length, set, Option, Some, None, slice_index_or}
use Rattle.ltl_form.specs.declared.forms.Form.{Form}
use Rattle.ltl_form.specs.declared.normals.Node.{Node}
use Rattle.ltl_form.specs.Form.{tree_at}
use Rattle.ltl_form.specs.Normal.{IsNodeAt}
use Rattle.ltl_form.specs.NodeTrees.{node_tree, node_trees, formula_at}
use Rattle.ltl_form.specs.Numbered.{numbered, with_tree, AreDistinct}
use Rattle.ltl_form.specs.Tree.{Tree, truth, falsity, literal, conjoined, disjoined, following, until, release}

pub record NumberingData : Type 0 where
  pub nodes : List Node
  pub numbers : List (Option ℕ)

-- at most 512 different formulas, each with its operands before it
pub record IsNumbered (nodes : List Node) : Type 0 where
  pub few : length nodes ≤ 512
  pub below : (n : ℕ) (d : Node) → n < length nodes → IsNodeAt n (slice_index_or nodes n d)
  pub distinct : AreDistinct (node_trees nodes)

-- each number that a form has is that of its tree
abbrev pub AreOf : List Form → NumberingData → Type 0
AreOf forms now =
    (at : ℕ) (n : ℕ) → slice_index_or now.numbers at None ≡ Some n → (n < length now.nodes) × (formula_at now.nodes n ≡ tree_at forms at)

-- the trees by number once the operands of a tree have numbers
abbrev pub operands_numbered : Tree → List Tree → List Tree
operands_numbered truth trees = trees
operands_numbered falsity trees = trees
operands_numbered (literal x b) trees = trees
operands_numbered (conjoined f g) trees = numbered g (numbered f trees)
operands_numbered (disjoined f g) trees = numbered g (numbered f trees)
operands_numbered (following f) trees = numbered f trees
operands_numbered (until f g) trees = numbered g (numbered f trees)
operands_numbered (release f g) trees = numbered g (numbered f trees)

-- the form at a place has number n, and no number is lost
pub record Numbers (forms : List Form) (old new : NumberingData) (at n : ℕ) : Type 0 where
  pub place : n < length new.nodes
  pub tree : formula_at new.nodes n ≡ tree_at forms at
  pub trees : node_trees new.nodes ≡ numbered (tree_at forms at) (node_trees old.nodes)
  pub are : AreOf forms new
  pub places : length new.numbers ≡ length old.numbers

-- two forms have numbers
pub record NumbersTwo (forms : List Form) (old new : NumberingData) (f g m n : ℕ) : Type 0 where
  pub left : m < length new.nodes
  pub right : n < length new.nodes
  pub left_tree : formula_at new.nodes m ≡ tree_at forms f
  pub right_tree : formula_at new.nodes n ≡ tree_at forms g
  pub trees : node_trees new.nodes ≡ numbered (tree_at forms g) (numbered (tree_at forms f) (node_trees old.nodes))
  pub are : AreOf forms new
  pub places : length new.numbers ≡ length old.numbers

-- the operands of the form at a place have numbers, and the formula with these operands is its
pub record NumbersInside (forms : List Form) (old new : NumberingData) (at : ℕ) (node : Node) : Type 0 where
  pub fits : IsNodeAt (length new.nodes) node
  pub tree : node_tree (node_trees new.nodes) node ≡ tree_at forms at
  pub trees : node_trees new.nodes ≡ operands_numbered (tree_at forms at) (node_trees old.nodes)
  pub are : AreOf forms new
  pub places : length new.numbers ≡ length old.numbers

-- the form at a place has the number of a formula over those that have numbers
pub record Puts (old new : NumberingData) (at : ℕ) (node : Node) (n : ℕ) : Type 0 where
  pub place : n < length new.nodes
  pub tree : formula_at new.nodes n ≡ node_tree (node_trees old.nodes) node
  pub trees : node_trees new.nodes ≡ with_tree (node_trees old.nodes) (node_tree (node_trees old.nodes) node)
  pub numbers : new.numbers ≡ set old.numbers at (Some n)
