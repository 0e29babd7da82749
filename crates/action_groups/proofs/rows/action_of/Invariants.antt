use Rattle.std.proofs.Common.{◌≡◌, ◌≤◌, length}
use Rattle.std.specs.List.{All}
use Rattle.game_form.specs.Game.{IsRow}
use Rattle.action_groups.proofs.RowNumbers.{AreRowsUpto}
use Rattle.action_groups.proofs.rows.action_of.Given as goal

abbrev pub invariant-loop-lane : goal.invariant-loop-lane
invariant-loop-lane l =
    (length l.rows.items ≡ l.lane) × All (IsRow l.lanes 0) l.rows.items × (l.at ≤ length l.steps) × AreRowsUpto l.steps l.at l.lane l.rows.items
