use Rattle.std.proofs.Common.{◌≡◌, ℕ, ◌<◌, ◌≤◌, length}
use Rattle.game_core.specs.Flat.{over_at}
use Rattle.game_core.proofs.Flats.{redirected}
use Rattle.game_core.proofs.tops.point.Given as goal

abbrev pub invariant-loop-i : goal.invariant-loop-i
invariant-loop-i l =
    (length l.over.items ≡ length l.initial.over.items)
    × ((j : ℕ) → j < l.i → over_at l.over.items j ≡ redirected l.from l.to (over_at l.initial.over.items j))
    × ((j : ℕ) → l.i ≤ j → over_at l.over.items j ≡ over_at l.initial.over.items j)
