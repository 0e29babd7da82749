use Rattle.std.proofs.Common.{◌≡◌}
use Rattle.std.specs.List.{filter, range_with_len}
use Rattle.cover_sets.specs.Numbers.{has, joined}
use Rattle.cover_sets.proofs.number_sets.NumberSet.to_list.Given as goal

abbrev pub invariant-loop-n : goal.invariant-loop-n
invariant-loop-n l = l.numbers.items ≡ filter (has (joined l.self.words)) (range_with_len 0 l.n)
