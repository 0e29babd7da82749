use Rattle.std.proofs.Common.{◌≡◌, ℕ, Bool, length, take}
use Rattle.std.specs.List.{list_any}
use Rattle.game_core.specs.Plan.{AreActions, Respects}
use Rattle.game_core.proofs.plans.least_options.Given as goal

abbrev pub invariant-loop-b : goal.invariant-loop-b
invariant-loop-b l =
    AreActions (length l.g.actions) l.kept.items
    × ((test : ℕ → Bool) → Respects l.g test → list_any test l.kept.items ≡ list_any test (take l.b-index l.options))
