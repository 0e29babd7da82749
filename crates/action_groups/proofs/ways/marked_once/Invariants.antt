use Rattle.std.specs.List.{All}
use Rattle.action_groups.specs.Way.{IsStep}
use Rattle.action_groups.proofs.Steps.{AreOnce}
use Rattle.action_groups.proofs.ways.marked_once.Given as goal

abbrev pub invariant-loop-i : goal.invariant-loop-i
invariant-loop-i l = All (IsStep l.count) l.once.items × AreOnce l.steps l.i l.once.items
