use Rattle.std.proofs.Common.{◌≡◌, ◌+◌, ◌++◌, length, take}
use Rattle.action_groups.specs.Labels.{shifted}
use Rattle.action_groups.specs.Part.{ArePairs}
use Rattle.action_groups.proofs.parts.add_part.Given as goal

abbrev pub invariant-loop-value : goal.invariant-loop-value
invariant-loop-value l = ArePairs (l.rest + 1) l.count l.pairs.items × (length l.pairs.items ≡ length l.initial.pairs.items + l.value-index) × (l.pairs.items ≡ l.initial.pairs.items ++ shifted l.bit (take l.value-index l.part))
