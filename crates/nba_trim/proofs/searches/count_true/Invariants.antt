use Rattle.std.proofs.Common.{◌≡◌, ◌≤◌, take}
use Rattle.nba_trim.specs.Search.{trues}
use Rattle.nba_trim.proofs.searches.count_true.Given as goal

abbrev pub invariant-loop-q : goal.invariant-loop-q
invariant-loop-q l = record { count : l.count ≡ trues (take l.q l.told); low : l.count ≤ l.q }
