use Rattle.std.proofs.Common.{◌≡◌, ◌<◌, ℕ, get_or}
use Rattle.counter_vec.proofs.Along.{no_step}
use Rattle.game_core.proofs.games.same_steps.Given as goal

abbrev pub invariant-loop-i : goal.invariant-loop-i
invariant-loop-i l = (k : ℕ) → k < l.i → get_or l.xs k no_step ≡ get_or l.ys k no_step
