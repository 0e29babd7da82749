use Rattle.std.proofs.Common.{◌≡◌, drop}
use Rattle.antichain_list.specs.Antichain.{covered}
use Rattle.counter_vec.specs.Counters.{at_or_below}
use Rattle.game_form.specs.Vector.{initial}
use Rattle.game_core.proofs.commits.holds_initial.Given as goal

abbrev pub invariant-loop-v : goal.invariant-loop-v
invariant-loop-v l = covered at_or_below (initial l.g) (drop l.v-index l.list) ≡ covered at_or_below (initial l.g) l.list
