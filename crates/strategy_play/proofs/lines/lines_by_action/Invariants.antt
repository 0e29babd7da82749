use Rattle.std.proofs.Common.{◌≡◌, take, map}
use Rattle.strategy_play.specs.Line.{line_by_action}
use Rattle.strategy_play.proofs.lines.lines_by_action.Given as goal

abbrev pub invariant-loop-cube : goal.invariant-loop-cube
invariant-loop-cube l = l.out.items ≡ map (line_by_action l.g l.own l.targets) (take l.cube-index l.cubes)
