use Rattle.std.proofs.Common.{◌≡◌, ◌<◌, length}
use Rattle.action_groups.specs.Part.{ArePairs}
use Rattle.action_groups.proofs.Numbering.{AreKept}
use Rattle.action_groups.proofs.leasts.first_of_each.Given as goal

abbrev pub invariant-loop-i : goal.invariant-loop-i
invariant-loop-i l =
    ArePairs l.width l.count l.kept.items × (0 < length l.kept.items) × (length l.seen.items ≡ l.count) × AreKept l.pairs l.i l.seen.items l.kept.items
