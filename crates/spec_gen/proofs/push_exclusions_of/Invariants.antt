use Rattle.std.proofs.Common.{◌≡◌, ◌++◌}
use Rattle.spec_gen.specs.Arbiter.{each, exclusion}
use Rattle.spec_gen.proofs.push_exclusions_of.Given as goal

abbrev pub invariant-loop-other : goal.invariant-loop-other
invariant-loop-other l = l.text.items ≡ l.fn.text.items ++ each (exclusion l.client) l.other
