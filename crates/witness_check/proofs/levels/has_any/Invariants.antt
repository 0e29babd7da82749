use Rattle.std.proofs.Common.{◌≡◌, ℕ, ◌<◌, false}
use Rattle.witness_check.specs.Levels.{is_in}
use Rattle.witness_check.proofs.levels.has_any.Given as goal

abbrev pub invariant-loop-is_in : goal.invariant-loop-is_in
invariant-loop-is_in l = (i : ℕ) → i < l.is_in-index → is_in l.table i ≡ false
