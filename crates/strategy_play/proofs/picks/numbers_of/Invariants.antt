use Rattle.std.proofs.Common.{◌≡◌, ℕ, ◌<◌, eqb, ◌&&◌, length, get_or, Some}
use Rattle.std.specs.Prelude.{slice_get}
use Rattle.std.specs.List.{IsDistinct}
use Rattle.strategy_play.proofs.picks.numbers_of.Given as goal

abbrev pub invariant-loop-pick : goal.invariant-loop-pick
invariant-loop-pick l = record {
  count : length l.out.items ≡ l.pick-index;
  distinct : IsDistinct (λ (p q : ℕ × ℕ). eqb p.0 q.0 && eqb p.1 q.1) l.different.keys;
  numbered : (i : ℕ) → i < l.pick-index → slice_get l.different.keys (get_or l.out.items i 0) ≡ Some (get_or l.picks i (0, 0));
}
