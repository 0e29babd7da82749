use Rattle.std.proofs.Common.{take}
use Rattle.std.specs.List.{All, Contains}
use Rattle.nba_quotient.specs.Ways.{IsAbsorbed}
use Rattle.nba_quotient.proofs.ways.widest.Given as goal

abbrev pub invariant-loop-way : goal.invariant-loop-way
invariant-loop-way l = All (IsAbsorbed l.kept.items) (take l.way-index l.ways) × All (Contains l.ways) l.kept.items
