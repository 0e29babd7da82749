-- Numbers of the formulas inside a tree, in the order of their first occurrence.
use Rattle.std.specs.Prelude.{◌≡◌, ℕ, suc, ◌<◌, Bool, true, false, max, List, [], ◌∷◌, ◌++◌, length, slice_index_or, if◌then◌else◌}
use native.Mathlib.Decide.{ℕ_discrete}
use mathlib.Core.Bool.{Bool-discrete}
use Rattle.std.specs.List.{list_any}
use Rattle.ltl_form.specs.Tree.{Tree, truth, falsity, literal, conjoined, disjoined, following, until, release, Tree-discrete}

abbrev pub is_yes : {P : Type 0} → Dec P → Bool
is_yes (yes e) = true
is_yes (no n) = false

unfoldable pub same_tree : Tree → Tree → Bool
same_tree f g = is_yes (Tree-discrete ℕ_discrete Bool-discrete f g)

abbrev pub has_tree : List Tree → Tree → Bool
has_tree trees t = list_any (same_tree t) trees

-- a tree gets the next number, where it has none yet
abbrev pub with_tree : List Tree → Tree → List Tree
with_tree trees t = if has_tree trees t then trees else trees ++ t ∷ []

-- the trees by number once a tree has one too: the left operand's formulas, the right operand's, then the tree itself
unfoldable pub numbered : Tree → List Tree → List Tree
numbered truth trees = with_tree trees truth
numbered falsity trees = with_tree trees falsity
numbered (literal x b) trees = with_tree trees (literal x b)
numbered (conjoined f g) trees = with_tree (numbered g (numbered f trees)) (conjoined f g)
numbered (disjoined f g) trees = with_tree (numbered g (numbered f trees)) (disjoined f g)
numbered (following f) trees = with_tree (numbered f trees) (following f)
numbered (until f g) trees = with_tree (numbered g (numbered f trees)) (until f g)
numbered (release f g) trees = with_tree (numbered g (numbered f trees)) (release f g)

-- no tree has two numbers
abbrev pub AreDistinct : List Tree → Type 0
AreDistinct trees = (m n : ℕ) (d : Tree) → m < n → n < length trees → slice_index_or trees m d ≡ slice_index_or trees n d → ⊥

-- the nesting of a tree
abbrev pub height : Tree → ℕ
height truth = 1
height falsity = 1
height (literal x b) = 1
height (conjoined f g) = suc (max (height f) (height g))
height (disjoined f g) = suc (max (height f) (height g))
height (following f) = suc (height f)
height (until f g) = suc (max (height f) (height g))
height (release f g) = suc (max (height f) (height g))
