use Rattle.std.proofs.Common.{◌≡◌}
use Rattle.std.specs.Vec.Iter.{into_iter_items}
use Rattle.game_core.specs.Board.{puts}
use Rattle.game_core.proofs.commits.put_left.Given as goal

abbrev pub invariant-loop-v : goal.invariant-loop-v
invariant-loop-v l = puts l.list (into_iter_items l.v-iterator) ≡ puts l.initial.list l.fn.left.items
