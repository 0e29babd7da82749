-- What a tableau accepts.
use Rattle.std.specs.Prelude.{◌≡◌, ◌↔◌, ℕ, ◌<◌, true, List, length}
use Rattle.ltl_form.specs.declared.normals.Node.{Node}
use Rattle.ltl_form.specs.Meaning.{tree_holds}
use Rattle.ltl_form.specs.NodeTrees.{formula_at}
use Rattle.ltl_form.specs.Normal.{IsNormal}
use Rattle.word_core.specs.Automaton.{AutomatonData}
use Rattle.word_core.specs.Lasso.{LassoData}
use Rattle.word_core.specs.Run.{Accepts}
use Rattle.tableau_nba.specs.Walks.{Spot, all_spots, automaton_in, found, walk_data}

-- an automaton accepts exactly the lassos on which formula n holds
abbrev pub AcceptsTruthOf : List Node → ℕ → AutomatonData → Type 0
AcceptsTruthOf nodes n a = (w : LassoData) → 0 < length w.cycle → Accepts a w ↔ (tree_holds w (formula_at nodes n) 0 ≡ true)

-- the automaton of the states that the walk finds accepts exactly the lassos on which the formula holds
abbrev pub AcceptsByTruth : Type 0
AcceptsByTruth =
    (nodes : List Node) (root signals : ℕ) (spots : List Spot) → IsNormal nodes root → all_spots (walk_data nodes signals) root ≡ found spots
    → AcceptsTruthOf nodes root (automaton_in (walk_data nodes signals) spots)
