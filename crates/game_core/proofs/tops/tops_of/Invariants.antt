use Rattle.std.proofs.Common.{◌≡◌, ℕ, ◌<◌, length}
use Rattle.std.specs.List.{All}
use Rattle.game_core.specs.Flat.{over_at}
use Rattle.game_core.proofs.Flats.{IsAmong}
use Rattle.game_core.proofs.tops.tops_of.Given as goal

abbrev pub invariant-loop-i : goal.invariant-loop-i
invariant-loop-i l = All (λ k. k < length l.lows.items) l.tops.items × ((k : ℕ) → k < l.i → over_at l.over.items k ≡ k → IsAmong l.tops.items k)
