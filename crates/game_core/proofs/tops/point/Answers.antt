use Rattle.std.proofs.Common.{arith}
use Rattle.game_core.proofs.Flats.{flat_pointed}
use Rattle.game_core.proofs.tops.point.Goals as goal

pub returns-clause-flat : goal.returns-clause-flat
returns-clause-flat c =
    flat_pointed c.args.lows.now.items c.args.over.now.items c.loop-i.over.items c.args.from c.args.to c.requires.flat c.requires.from c.requires.to c.requires.apart c.requires.top c.requires.above
    c.loop-i.invariant.0 (λ j lt. c.loop-i.invariant.1 j (let n = c.requires.flat.same in let m = c.loop-i.invariant.0 in omega arith))
