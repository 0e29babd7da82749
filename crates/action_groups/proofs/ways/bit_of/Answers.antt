use Rattle.std.proofs.lemmas.Nat.Bits.{shr_and_one}
use Rattle.action_groups.proofs.ways.bit_of.Goals as goal

pub returns : goal.returns
returns c = shr_and_one c.args.bits c.args.signal
