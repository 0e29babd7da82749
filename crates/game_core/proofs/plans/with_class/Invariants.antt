use Rattle.std.proofs.Common.{◌≡◌, ◌&&◌, ℕ, Bool, length}
use Rattle.std.specs.List.{All, list_any}
use Rattle.game_core.specs.Plan.{AreActions, Respects, each_planned}
use Rattle.game_core.proofs.plans.with_class.Given as goal

abbrev pub invariant-loop-class : goal.invariant-loop-class
invariant-loop-class l =
    All (λ c. AreActions (length l.g.actions) c.items) l.needed.items
    × ((test : ℕ → Bool) → Respects l.g test → (each_planned test l.needed.items && list_any test l.options.items) ≡ (each_planned test l.yielded && list_any test l.options.items))
