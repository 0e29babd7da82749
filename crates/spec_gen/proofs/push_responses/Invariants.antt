use Rattle.std.proofs.Common.{◌≡◌, ◌++◌}
use Rattle.spec_gen.specs.Arbiter.{each, response}
use Rattle.spec_gen.proofs.push_responses.Given as goal

abbrev pub invariant-loop-client : goal.invariant-loop-client
invariant-loop-client l = l.text.items ≡ l.fn.text.items ++ each (response) l.client
