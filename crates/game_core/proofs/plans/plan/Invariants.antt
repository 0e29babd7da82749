use Rattle.std.proofs.Common.{◌≡◌, ℕ, Bool, length, take}
use Rattle.std.specs.List.{All}
use Rattle.game_core.specs.Plan.{AreActions, Respects, each_planned, each_class}
use Rattle.game_core.proofs.plans.plan.Given as goal

abbrev pub invariant-loop-c : goal.invariant-loop-c
invariant-loop-c l =
    All (λ c. AreActions (length l.g.actions) c.items) l.needed.items
    × ((test : ℕ → Bool) → Respects l.g test → each_planned test l.needed.items ≡ each_class test (take l.c l.g.classes))
