use Rattle.std.proofs.Common.{◌≡◌, map, take}
use Rattle.counter_vec.specs.Counters.{lifted}
use Rattle.game_core.proofs.starts.lift.Given as goal

abbrev pub invariant-loop-i : goal.invariant-loop-i
invariant-loop-i l = l.higher.items ≡ map (lifted l.by) (take l.i l.left)
