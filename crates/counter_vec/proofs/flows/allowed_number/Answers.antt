use Rattle.std.proofs.Common.{arith}
use Rattle.std.proofs.lemmas.Int.{ints, clamps}
use Rattle.game_form.specs.Vector.{size_of}
use Rattle.counter_vec.proofs.Along.{allowed_is}
use Rattle.counter_vec.proofs.flows.allowed_number.Goals as goal

pub returns : goal.returns
returns c = rw (← allowed_is (size_of c.args.k) c.args.x c.args.number c.requires.value c.requires.number.0) (omega (arith, ints, clamps, c.max.ensures.value))
