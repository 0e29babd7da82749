use Rattle.std.proofs.Common.{◌<◌, ℕ, Option, IfSome, slice_index_or}
use Rattle.game_core.specs.Board.{JobData, IsJob}
use Rattle.game_core.proofs.worlds.jobs_known.Given as goal

abbrev pub invariant-loop-job : goal.invariant-loop-job
invariant-loop-job l = (k : ℕ) (d : Option JobData) → k < l.job-index → IfSome (slice_index_or l.jobs k d) IsJob
