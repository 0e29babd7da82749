use Rattle.std.proofs.Common.{◌≡◌, ◌<◌, length}
use Rattle.std.specs.List.{All}
use Rattle.action_groups.proofs.thinnings.note_leaders.Given as goal

abbrev pub invariant-loop-i : goal.invariant-loop-i
invariant-loop-i l = (length l.leaders.items ≡ length l.initial.leaders.items) × All (λ j. j < length l.ways) l.leaders.items
