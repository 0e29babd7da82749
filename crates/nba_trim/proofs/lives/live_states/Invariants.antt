use Rattle.std.proofs.Common.{◌≡◌, ℕ, length}
use Rattle.nba_trim.specs.Search.{trues, IsBoundedOutside}
use Rattle.nba_trim.proofs.lives.live_states.Given as goal

abbrev pub invariant-loop-live : goal.invariant-loop-live
invariant-loop-live l = record {
  each : length l.live.items ≡ length l.a.states;
  sizes : l.size ≡ trues l.live.items;
  outside : (bound : ℕ) × IsBoundedOutside l.a l.live.items bound;
}

abbrev pub decreases-loop-live : goal.decreases-loop-live
decreases-loop-live l = l.size
