use Rattle.std.proofs.Common.{arith}
use Rattle.std.proofs.lemmas.Int.{ints, clamps}
use Rattle.counter_vec.proofs.Along.{brought_is}
use Rattle.counter_vec.proofs.flows.brought_number.Goals as goal

pub returns : goal.returns
returns c = rw (← brought_is c.args.k c.args.value c.args.number c.requires.bound.0 c.requires.value.0 c.requires.number.0) (omega (arith, ints, clamps, c.min.ensures.value))
