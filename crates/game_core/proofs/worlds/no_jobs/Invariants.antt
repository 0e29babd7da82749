use Rattle.std.proofs.Common.{◌≡◌, None, replicate}
use Rattle.game_core.proofs.worlds.no_jobs.Given as goal

abbrev pub invariant-loop : goal.invariant-loop
invariant-loop l = l.jobs.items ≡ replicate l.counter None
