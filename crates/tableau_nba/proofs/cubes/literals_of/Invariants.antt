use Rattle.std.proofs.Common.{◌≡◌}
use Rattle.std.specs.List.{flat_map, range_with_len}
use Rattle.cover_sets.specs.Covers.{node_at}
use Rattle.tableau_nba.specs.Tableau.{AreLiterals}
use Rattle.tableau_nba.specs.Walks.{literal_at}
use Rattle.tableau_nba.proofs.cubes.literals_of.Given as goal

abbrev pub invariant-loop-n : goal.invariant-loop-n
invariant-loop-n l = AreLiterals l.signals l.literals.items × (l.literals.items ≡ flat_map (λ n. literal_at n (node_at l.nodes n)) (range_with_len 0 l.n))
