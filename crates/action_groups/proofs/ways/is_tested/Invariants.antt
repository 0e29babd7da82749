use Rattle.std.proofs.Common.{◌≡◌, take}
use Rattle.std.specs.Int.{bit_at}
use Rattle.std.specs.List.{All}
use Rattle.action_groups.proofs.ways.is_tested.Given as goal

abbrev pub invariant-loop-way : goal.invariant-loop-way
invariant-loop-way l = All (λ w. bit_at w.edge.cube.care l.signal ≡ 0) (take l.way-index l.ways)
