use Rattle.std.proofs.Common.{◌≡◌, ◌<◌, length}
use Rattle.std.specs.List.{All}
use Rattle.action_groups.specs.Part.{ArePairs}
use Rattle.action_groups.proofs.Numbering.{AreRanked}
use Rattle.action_groups.proofs.ranks.rank_sorted.Given as goal

abbrev pub invariant-loop-i : goal.invariant-loop-i
invariant-loop-i l =
    ArePairs l.width l.count l.order.items
    × (0 < length l.order.items)
    × (length l.numbers.items ≡ l.count)
    × (length l.seen.items ≡ l.count)
    × All (λ n. n < length l.order.items) l.numbers.items
    × AreRanked l.pairs l.i l.seen.items l.order.items l.numbers.items
