use Rattle.std.proofs.Common.{◌≡◌, ◌++◌, length, map, take}
use Rattle.std.specs.List.{All}
use Rattle.word_core.specs.Automaton.{edges_at}
use Rattle.action_groups.specs.Rows.{way_from}
use Rattle.action_groups.specs.Way.{IsWay}
use Rattle.action_groups.proofs.ways.add_ways.Given as goal

abbrev pub invariant-loop-edge : goal.invariant-loop-edge
invariant-loop-edge l =
    All (IsWay (length l.a.states)) l.ways.items × (l.ways.items ≡ l.initial.ways.items ++ map (way_from l.q) (take l.edge-index (edges_at l.a l.q)))
