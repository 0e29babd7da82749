use Rattle.std.proofs.Common.{arith, ◌≡◌, ◌-◌, suc}
use Rattle.game_core.proofs.Places.{count_fresh, count_open, place_fresh, place_here, place_later}
use Rattle.game_core.proofs.marks.find_open.Goals as goal
use Rattle.game_core.proofs.marks.find_open.Goals.{then-not-fresh+else-before-number, else-not-fresh}

pub returns-then-before-number-clause-place : goal.returns-then-before-number-clause-place
returns-then-before-number-clause-place c =
    let none : c.args.number - c.loop-i.before ≡ 0 = omega arith in
    let h = place_here c.args.marks.now c.loop-i.i (c.args.number - c.loop-i.before) c.loop-i-test.true c.if-not-fresh.true none in
    omega arith

pub loop-i-preserved : goal.loop-i-preserved
loop-i-preserved c =
    elim c.if-not-fresh.branch [
      | then-not-fresh+else-before-number w ↦
          (let more : c.args.number - c.loop-i.before ≡ suc (c.args.number - c.if-not-fresh.before) = omega arith in
          let h = count_open c.args.marks.now c.loop-i.i c.loop-i-test.true w.if-not-fresh.true in
          let k = place_later c.args.marks.now c.loop-i.i (c.args.number - c.loop-i.before) (c.args.number - c.if-not-fresh.before) c.loop-i-test.true w.if-not-fresh.true more in
          (omega arith, omega arith, omega arith))
      | else-not-fresh w ↦
          (let same : c.args.number - c.loop-i.before ≡ c.args.number - c.if-not-fresh.before = omega arith in
          let h = count_fresh c.args.marks.now c.loop-i.i c.loop-i-test.true w.if-not-fresh.false in
          let k = place_fresh c.args.marks.now c.loop-i.i (c.args.number - c.if-not-fresh.before) c.loop-i-test.true w.if-not-fresh.false in
          (omega arith, omega arith, rw (← same) (let l = place_fresh c.args.marks.now c.loop-i.i (c.args.number - c.loop-i.before) c.loop-i-test.true w.if-not-fresh.false in omega arith)))
    ]
