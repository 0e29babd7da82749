use Rattle.std.proofs.Common.{◌≡◌, map, take}
use Rattle.std.specs.List.{All}
use Rattle.action_groups.specs.Numbers.{step_of}
use Rattle.action_groups.specs.Way.{IsStep}
use Rattle.action_groups.proofs.ways.effect.Given as goal

abbrev pub invariant-loop-way : goal.invariant-loop-way
invariant-loop-way l = All (IsStep l.count) l.steps.items × (l.steps.items ≡ map step_of (take l.way-index l.ways))
