use Rattle.std.proofs.Common.{ℕ, ◌≡◌, ◌<◌}
use Rattle.game_form.specs.Game.{action_at, row_at}
use Rattle.game_form.specs.Vector.{lane, allowed, bound}
use Rattle.counter_vec.proofs.flows.lower_all.Given as goal

abbrev pub invariant-loop-q : goal.invariant-loop-q
invariant-loop-q l = (p : ℕ) → p < l.q → lane l.out p ≡ allowed (bound l.g) (row_at (action_at l.g l.action) p) 0 l.v
