use Rattle.std.proofs.Common.{◌≡◌, ◌+◌, ◌≤◌, drop}
use Rattle.game_core.specs.Board.{open_count}
use Rattle.game_core.proofs.marks.count_open.Given as goal

abbrev pub invariant-loop-fresh : goal.invariant-loop-fresh
invariant-loop-fresh l = (l.open + open_count (drop l.fresh-index l.marks) ≡ open_count l.marks) × (l.open ≤ l.fresh-index)
