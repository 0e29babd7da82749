use Rattle.std.proofs.Common.{refl, ap, arith, Some, ◌++◌, take, length, rules}
use Rattle.std.proofs.lemmas.Grind.{common_steps}
use Rattle.shelf_io.specs.MemSink.{next_count}
use Rattle.shelf_io.specs.Written.{appended}
use Rattle.shelf_io.proofs.mem_sinks.MemSinkSink.write_all.Goals as goal

pub returns-then-is_some-clause-part : goal.returns-then-is_some-clause-part
unfolding appended
returns-then-is_some-clause-part c = (next_count c.args.self.now (length c.args.bytes.now), ap Some (grind (arith, common_steps)))

pub returns-clause-all : goal.returns-clause-all
unfolding appended
returns-clause-all c = ap Some (grind (arith, common_steps))
