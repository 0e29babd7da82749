use Rattle.std.proofs.Common.{◌≡◌, ℕ, ◌<◌, length}
use Rattle.strategy_play.specs.Lead.{lead, next_at}
use Rattle.strategy_play.proofs.nexts.next_entries.Given as goal

abbrev pub invariant-loop-action : goal.invariant-loop-action
invariant-loop-action l = record {
  count : length l.out.items ≡ l.action;
  each : (a : ℕ) → a < l.action → lead l.out.items a ≡ next_at l.g l.d l.f a;
}
