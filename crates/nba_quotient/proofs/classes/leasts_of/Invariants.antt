use Rattle.std.proofs.Common.{◌≡◌, ℕ, ◌+◌, ◌<◌, ◌≤◌, length}
use Rattle.std.specs.List.{All}
use Rattle.nba_quotient.specs.Ways.{class_at}
use Rattle.nba_quotient.proofs.classes.leasts_of.Given as goal

abbrev pub invariant-loop-back : goal.invariant-loop-back
invariant-loop-back l =
    (length l.leasts.items ≡ l.count) × All (λ q. q < length l.of) l.leasts.items
    × ((s : ℕ) → s < length l.of → length l.of ≤ s + l.back → class_at l.of (class_at l.leasts.items (class_at l.of s)) ≡ class_at l.of s)
