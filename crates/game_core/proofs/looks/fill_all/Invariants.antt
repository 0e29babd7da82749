use Rattle.std.proofs.Common.{take}
use Rattle.std.specs.List.{All}
use Rattle.game_core.specs.Columns.{AreColumns, AreFull}
use Rattle.game_core.proofs.looks.fill_all.Given as goal

abbrev pub invariant-loop-c : goal.invariant-loop-c
invariant-loop-c l = AreColumns l.g l.vectors l.columns × All (λ c. AreFull l.vectors l.columns c.items) (take l.c l.plan)
