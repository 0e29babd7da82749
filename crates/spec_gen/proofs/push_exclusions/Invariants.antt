use Rattle.std.proofs.Common.{◌≡◌, ◌++◌}
use Rattle.spec_gen.specs.Arbiter.{each, exclusions}
use Rattle.spec_gen.proofs.push_exclusions.Given as goal

abbrev pub invariant-loop-client : goal.invariant-loop-client
invariant-loop-client l = l.text.items ≡ l.fn.text.items ++ each (exclusions l.clients) l.client
