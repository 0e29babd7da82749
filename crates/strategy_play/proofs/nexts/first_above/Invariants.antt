use Rattle.std.proofs.Common.{◌≡◌, drop}
use Rattle.std.specs.List.{position_from}
use Rattle.counter_vec.specs.Counters.{at_or_below}
use Rattle.strategy_play.specs.Lead.{place_above}
use Rattle.strategy_play.proofs.nexts.first_above.Given as goal

abbrev pub invariant-loop-place : goal.invariant-loop-place
invariant-loop-place l = position_from (λ e. at_or_below l.v e) l.place (drop l.place l.d) ≡ place_above l.d l.v
