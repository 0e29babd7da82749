use Rattle.std.proofs.Common.{arith}
use Rattle.game_core.proofs.ColumnReads.{column_none, column_removed}
use Rattle.game_core.proofs.exchanges.drop_from.Goals as goal

pub returns-then-is_idle : goal.returns-then-is_idle
returns-then-is_idle c = λ g action vectors lt h. rw c.clear.ensures (column_none g action _)

pub returns-then-gone-len : goal.returns-then-gone-len
returns-then-gone-len c = λ g action vectors lt h. rw c.take.ensures (column_removed g action vectors c.args.column.now.items c.args.gone h (omega arith))
