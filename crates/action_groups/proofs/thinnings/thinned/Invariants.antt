use Rattle.std.proofs.Common.{◌≡◌, ◌<◌, length}
use Rattle.std.specs.List.{All}
use Rattle.action_groups.specs.Way.{IsWay}
use Rattle.action_groups.proofs.Thinned.{AreThinned}
use Rattle.action_groups.proofs.thinnings.thinned.Given as goal

abbrev pub invariant-loop-i : goal.invariant-loop-i
invariant-loop-i l =
    All (IsWay l.count) l.kept.items × (length l.leaders.items ≡ l.count) × (0 < length l.ways → All (λ j. j < length l.ways) l.leaders.items) × AreThinned l.order l.place l.ways l.i l.kept.items
