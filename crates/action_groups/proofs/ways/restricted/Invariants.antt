use Rattle.std.proofs.Common.{◌≡◌, take}
use Rattle.std.specs.List.{All, filter}
use Rattle.action_groups.specs.Tests.{allows}
use Rattle.action_groups.specs.Way.{IsWay}
use Rattle.action_groups.proofs.ways.restricted.Given as goal

abbrev pub invariant-loop-way : goal.invariant-loop-way
invariant-loop-way l = All (IsWay l.count) l.kept.items × (l.kept.items ≡ filter (λ w. allows w.edge.cube l.signal l.value) (take l.way-index l.ways))
