use Rattle.std.proofs.Common.{◌≡◌, length, map, take}
use Rattle.action_groups.specs.Part.{AreNodes}
use Rattle.action_groups.specs.Rank.{with_number}
use Rattle.action_groups.proofs.ranks.relabelled.Given as goal

abbrev pub invariant-loop-node : goal.invariant-loop-node
invariant-loop-node l =
    AreNodes l.width l.count l.out.items
    × (length l.out.items ≡ l.node-index)
    × (l.out.items ≡ map (with_number l.numbers) (take l.node-index l.nodes))
