use Rattle.std.proofs.Common.{◌≡◌, ◌<◌, ℕ, get_or}
use Rattle.game_core.specs.Board.{no_node}
use Rattle.game_core.proofs.games.same_nodes.Given as goal

abbrev pub invariant-loop-i : goal.invariant-loop-i
invariant-loop-i l = (k : ℕ) → k < l.i → get_or l.xs k no_node ≡ get_or l.ys k no_node
