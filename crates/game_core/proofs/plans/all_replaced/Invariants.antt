use Rattle.std.proofs.Common.{◌≡◌, ℕ, ◌<◌, Bool, true, slice_index_or}
use Rattle.std.specs.List.{list_any}
use Rattle.game_core.specs.Plan.{Respects}
use Rattle.game_core.proofs.plans.all_replaced.Given as goal

abbrev pub invariant-loop-x : goal.invariant-loop-x
invariant-loop-x l = (test : ℕ → Bool) → Respects l.g test → (k d : ℕ) → k < l.x-index → test (slice_index_or l.a k d) ≡ true → list_any test l.b ≡ true
