use Rattle.std.proofs.Common.{refl}
use Rattle.shelf_io.specs.Written.{appended}
use Rattle.shelf_io.proofs.stream_sinks.StreamSinkSink.write_all.Goals as goal

pub returns-then-write_pieces-clause-all : goal.returns-then-write_pieces-clause-all
unfolding appended
returns-then-write_pieces-clause-all g c = refl

pub returns-clause-part : goal.returns-clause-part
unfolding appended
returns-clause-part g c = (0, refl)
