use Rattle.std.proofs.Common.{◌≡◌, ℕ, ◌<◌, length, Some, true, get_or, drop}
use Rattle.strategy_play.specs.Lead.{lead, LeadBelow, all_lead}
use Rattle.strategy_play.proofs.picks.targets.Given as goal

abbrev pub invariant-loop-option : goal.invariant-loop-option
invariant-loop-option l = record {
  count : length l.out.items ≡ length l.nexts;
  below : (n : ℕ) → 0 < n → LeadBelow n l.nexts → (a : ℕ) → get_or l.out.items a 0 < n;
  each : (i : ℕ) → i < l.option-index → lead l.nexts (get_or l.class.options i (0, 0)).0 ≡ Some (get_or l.out.items (get_or l.class.options i (0, 0)).0 0);
  rest : all_lead (lead l.nexts) (drop l.option-index l.class.options) ≡ true;
}
