use Rattle.std.proofs.Common.{◌≡◌, ℕ, ◌<◌, true}
use Rattle.witness_check.specs.Levels.{is_in}
use Rattle.witness_check.proofs.levels.is_within.Given as goal

abbrev pub invariant-loop-node : goal.invariant-loop-node
invariant-loop-node l = (i : ℕ) → i < l.node → is_in l.first i ≡ true → is_in l.second i ≡ true
