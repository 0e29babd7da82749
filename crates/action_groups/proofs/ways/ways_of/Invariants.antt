use Rattle.std.proofs.Common.{length}
use Rattle.std.specs.List.{All}
use Rattle.action_groups.specs.Way.{IsWay}
use Rattle.action_groups.proofs.Edges.{HasEdgesUpto}
use Rattle.action_groups.proofs.ways.ways_of.Given as goal

abbrev pub invariant-loop-q : goal.invariant-loop-q
invariant-loop-q l = All (IsWay (length l.a.states)) l.ways.items × HasEdgesUpto l.a l.q l.ways.items
