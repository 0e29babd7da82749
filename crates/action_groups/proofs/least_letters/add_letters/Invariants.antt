use Rattle.std.proofs.Common.{◌≡◌, ◌++◌, map, take}
use Rattle.action_groups.specs.Part.{ArePairs}
use Rattle.action_groups.specs.Sides.{letter_with}
use Rattle.action_groups.proofs.least_letters.add_letters.Given as goal

abbrev pub invariant-loop-value : goal.invariant-loop-value
invariant-loop-value l =
    ArePairs 64 l.count l.met.items × (l.met.items ≡ l.initial.met.items ++ map (letter_with l.order l.first) (take l.value-index l.options))
