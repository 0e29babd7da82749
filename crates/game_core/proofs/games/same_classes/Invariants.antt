use Rattle.std.proofs.Common.{◌≡◌, ◌<◌, ℕ, get_or}
use Rattle.game_form.specs.Game.{no_class}
use Rattle.game_core.proofs.games.same_classes.Given as goal

abbrev pub invariant-loop-i : goal.invariant-loop-i
invariant-loop-i l = (k : ℕ) → k < l.i → get_or l.xs k no_class ≡ get_or l.ys k no_class
