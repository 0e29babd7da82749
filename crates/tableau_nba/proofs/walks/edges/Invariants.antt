use Rattle.std.proofs.Common.{◌≡◌, ◌≤◌, All, map, take}
use Rattle.indexmap.specs.IndexSet.{index_set_len}
use Rattle.word_core.specs.Automaton.{IsEdge}
use Rattle.cover_sets.specs.Union.{covers_of}
use Rattle.tableau_nba.specs.Walks.{edges_in, grown, spot_of}
use Rattle.tableau_nba.proofs.walks.edges.Given as goal

abbrev pub invariant-loop-cover : goal.invariant-loop-cover
invariant-loop-cover l =
    (index_set_len l.fn.places ≤ index_set_len l.places)
    × (index_set_len l.places ≤ 4096)
    × All (IsEdge l.signals (index_set_len l.places)) l.edges.keys
    × (map spot_of l.places.keys ≡ grown l.untils l.level (take l.cover-index (covers_of l.list)) (map spot_of l.fn.places.keys))
    × (l.edges.keys ≡ edges_in l.literals l.untils (map spot_of l.places.keys) l.level (take l.cover-index (covers_of l.list)))
