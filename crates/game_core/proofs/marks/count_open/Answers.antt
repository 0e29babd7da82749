use Rattle.std.proofs.Common.{arith}
use Rattle.game_core.proofs.Places.{count_fresh, count_open}
use Rattle.game_core.proofs.marks.count_open.Goals as goal
use Rattle.game_core.proofs.marks.count_open.Goals.{then-not-fresh, else-not-fresh}

pub loop-fresh-preserved : goal.loop-fresh-preserved
loop-fresh-preserved c =
    elim c.if-not-fresh.branch [
      | then-not-fresh w ↦ (let h = count_open c.args.marks.now c.loop-fresh.fresh-index c.loop-fresh-test.true w.if-not-fresh.true in (omega arith, omega arith))
      | else-not-fresh w ↦ (let h = count_fresh c.args.marks.now c.loop-fresh.fresh-index c.loop-fresh-test.true w.if-not-fresh.false in (omega arith, omega arith))
    ]
