use Rattle.std.proofs.Common.{◌≡◌, ◌≤◌}
use Rattle.action_groups.specs.Thinned.{cares_for_none}
use Rattle.action_groups.proofs.thinnings.is_decided.Given as goal

abbrev pub invariant-loop-k : goal.invariant-loop-k
invariant-loop-k l = (l.place ≤ l.k) × (cares_for_none l.order l.place l.cube ≡ cares_for_none l.order l.k l.cube)
