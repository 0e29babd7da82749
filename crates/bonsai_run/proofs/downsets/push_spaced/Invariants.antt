use Rattle.std.proofs.Common.{◌≡◌, ◌++◌, drop}
use Rattle.bonsai_run.specs.Answers.{spaced}
use Rattle.bonsai_run.proofs.downsets.push_spaced.Given as goal

abbrev pub invariant-loop-lane : goal.invariant-loop-lane
invariant-loop-lane l = l.text.items ++ spaced (drop l.lane-index l.lanes) ≡ l.fn.text.items ++ spaced l.lanes
