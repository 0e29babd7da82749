use Rattle.std.proofs.Common.{arith}
use Rattle.nba_trim.proofs.Trues.{trues_more}
use Rattle.nba_trim.proofs.searches.count_true.Goals as goal

pub loop-q-preserved : goal.loop-q-preserved
loop-q-preserved c =
    let i = c.loop-q.invariant in
    let m = trues_more c.args.told.now c.loop-q.q c.loop-q-test.true in
    record { count = omega (arith, i.count, m, c.one_if-count.ensures.value); low = omega (arith, i.low, c.one_if-count.ensures.low) }
