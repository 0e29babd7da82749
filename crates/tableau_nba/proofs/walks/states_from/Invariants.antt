use Rattle.std.proofs.Common.{map}
use Rattle.indexmap.specs.IndexSet.{index_set_len}
use Rattle.tableau_nba.specs.Tableau.{AreCovers}
use Rattle.tableau_nba.specs.Walks.{spot_of, walker_of}
use Rattle.tableau_nba.proofs.Edges.{Visited}
use Rattle.tableau_nba.proofs.Visits.{Walking}
use Rattle.tableau_nba.proofs.walks.states_from.Given as goal

abbrev pub invariant-loop-at : goal.invariant-loop-at
invariant-loop-at l =
    Visited l.signals (index_set_len l.places) l.at l.states.items
    × AreCovers l.table l.lists.sets l.lists.lists
    × Walking (walker_of l.table l.literals l.untils l.signals) l.root l.at (map spot_of l.places.keys) l.states.items
