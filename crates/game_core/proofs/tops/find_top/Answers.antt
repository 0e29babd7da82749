use Rattle.std.proofs.Common.{arith}
use Rattle.game_core.proofs.Flats.{flat_misses}
use Rattle.game_core.proofs.tops.find_top.Goals as goal

pub returns-clause-none : goal.returns-clause-none
returns-clause-none c = flat_misses c.args.f.now c.args.lows.now.items c.args.over.now.items c.requires (λ k lt. c.loop-i.invariant k (omega arith))
