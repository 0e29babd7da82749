-- The trees of formulas by number.
use Rattle.std.specs.Prelude.{ℕ, List, [], ◌∷◌, ◌++◌, fold, slice_index_or}
use Rattle.ltl_form.specs.declared.normals.Node.{Node}
use Rattle.ltl_form.specs.declared.normals.Node.TheVariants.{True, False, Lit, And, Or, Next, Until, Release}
use Rattle.ltl_form.specs.Tree.{Tree, truth, falsity, literal, conjoined, disjoined, following, until, release}

-- the tree of a formula over those of the formulas with lesser numbers
abbrev pub node_tree : List Tree → Node → Tree
node_tree trees True = truth
node_tree trees False = falsity
node_tree trees (Lit signal positive) = literal signal positive
node_tree trees (And f g) = conjoined (slice_index_or trees f truth) (slice_index_or trees g truth)
node_tree trees (Or f g) = disjoined (slice_index_or trees f truth) (slice_index_or trees g truth)
node_tree trees (Next f) = following (slice_index_or trees f truth)
node_tree trees (Until f g) = until (slice_index_or trees f truth) (slice_index_or trees g truth)
node_tree trees (Release f g) = release (slice_index_or trees f truth) (slice_index_or trees g truth)

-- the trees of formulas by number
unfoldable pub node_trees : List Node → List Tree
node_trees nodes = fold (λ ts node. ts ++ node_tree ts node ∷ []) [] nodes

-- the tree of formula n
abbrev pub formula_at : List Node → ℕ → Tree
formula_at nodes n = slice_index_or (node_trees nodes) n truth
