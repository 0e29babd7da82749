use Rattle.std.proofs.Common.{◌≡◌, ◌||◌, ℕ, Bool, length, take}
use Rattle.std.specs.List.{list_any}
use Rattle.game_core.specs.Plan.{AreActions, Respects}
use Rattle.game_core.proofs.plans.with_option.Given as goal

abbrev pub invariant-loop-a : goal.invariant-loop-a
invariant-loop-a l =
    AreActions (length l.g.actions) l.kept.items
    × ((test : ℕ → Bool) → Respects l.g test → (list_any test l.kept.items || test l.b) ≡ (list_any test (take l.a-index l.options) || test l.b))
