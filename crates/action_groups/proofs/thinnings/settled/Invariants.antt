use Rattle.std.proofs.Common.{map, take}
use Rattle.std.specs.List.{All, Contains}
use Rattle.action_groups.specs.Thinned.{decided_way}
use Rattle.action_groups.specs.Way.{IsWay}
use Rattle.action_groups.proofs.thinnings.settled.Given as goal

abbrev pub invariant-loop-way : goal.invariant-loop-way
invariant-loop-way l =
    All (IsWay l.count) l.seen.keys × All (Contains (map (decided_way l.signal) l.ways)) l.seen.keys × All (Contains l.seen.keys) (map (decided_way l.signal) (take l.way-index l.ways))
