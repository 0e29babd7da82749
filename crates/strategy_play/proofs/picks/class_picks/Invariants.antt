use Rattle.std.proofs.Common.{◌≡◌, ℕ, ◌<◌, length, Some, get_or}
use Rattle.game_form.specs.Game.{class_at}
use Rattle.strategy_play.specs.Lead.{lead, pick}
use Rattle.strategy_play.proofs.picks.class_picks.Given as goal

abbrev pub invariant-loop-c : goal.invariant-loop-c
invariant-loop-c l = record {
  count : length l.out.items ≡ l.c;
  each : (c : ℕ) → c < l.c → pick (lead l.nexts) (class_at l.g c).options ≡ Some (get_or l.out.items c (0, 0));
}
