use Rattle.std.proofs.Common.{◌≡◌, ◌<◌, true, false, length, slice_index_or}
use Rattle.std.specs.Prelude.{IfSome}
use Rattle.game_core.proofs.fronts.next_entry.Given as goal

abbrev pub invariant-loop-i : goal.invariant-loop-i
invariant-loop-i l = IfSome l.best (λ b. (b < length l.pending) × (slice_index_or l.pending b false ≡ true))
