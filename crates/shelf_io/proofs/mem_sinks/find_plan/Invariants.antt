use Rattle.std.proofs.Common.{◌≡◌, ◌==◌, drop, find}
use Rattle.shelf_io.proofs.mem_sinks.find_plan.Given as goal

abbrev pub invariant-loop-own : goal.invariant-loop-own
invariant-loop-own l =
    find (λ p. p.0 == l.call) (drop l.own-index l.failing) ≡ find (λ p. p.0 == l.call) l.failing
