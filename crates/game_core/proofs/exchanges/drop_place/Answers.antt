use Rattle.std.proofs.Common.{◌<◌, length, arith}
use Rattle.game_core.proofs.ColumnReads.{dropped_none, dropped_more, dropped_all}
use Rattle.game_core.proofs.exchanges.drop_place.Goals as goal

pub loop-at-init : goal.loop-at-init
loop-at-init c = λ g vectors lt h. dropped_none g vectors c.args.gone c.args.columns.now h

pub loop-at-preserved : goal.loop-at-preserved
loop-at-preserved c = λ g vectors lt h.
    let within : c.loop-at.at < length c.loop-at.columns = omega arith in
    dropped_more g vectors c.args.gone c.loop-at.at c.loop-at.columns c.index-columns-at.result c.drop_from.new.column (c.loop-at.invariant g vectors lt h) within
    (c.drop_from.ensures g c.loop-at.at vectors lt)

pub returns : goal.returns
returns c = λ g vectors lt h. dropped_all g vectors c.args.gone c.loop-at.at c.loop-at.columns (c.loop-at.invariant g vectors lt h) (omega arith)
