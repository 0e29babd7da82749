use Rattle.std.proofs.Common.{◌≡◌, take}
use Rattle.action_groups.specs.Part.{ArePairs}
use Rattle.action_groups.specs.Sides.{letters_of}
use Rattle.action_groups.proofs.least_letters.met_letters.Given as goal

abbrev pub invariant-loop-least : goal.invariant-loop-least
invariant-loop-least l = ArePairs 64 l.count l.met.items × (l.met.items ≡ letters_of l.order l.lists.keys (take l.least-index l.classes))
