use Rattle.std.proofs.Common.{◌≡◌, ◌<◌, ℕ}
use Rattle.game_core.specs.Board.{entry_at}
use Rattle.game_core.proofs.commits.place_of.Given as goal

abbrev pub invariant-loop-i : goal.invariant-loop-i
invariant-loop-i l = (k : ℕ) → k < l.i → entry_at l.list k ≡ l.v → ⊥
