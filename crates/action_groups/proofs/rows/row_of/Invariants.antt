use Rattle.game_form.specs.Game.{IsRow}
use Rattle.action_groups.proofs.RowNumbers.{IsRowUpto}
use Rattle.action_groups.proofs.rows.row_of.Given as goal

abbrev pub invariant-loop-i : goal.invariant-loop-i
invariant-loop-i l = IsRow l.lanes 0 l.row.items × IsRowUpto l.steps l.at l.lane l.i l.next l.row.items
