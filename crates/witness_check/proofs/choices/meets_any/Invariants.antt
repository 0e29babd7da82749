use Rattle.std.proofs.Common.{◌≡◌, ℕ, true, take}
use Rattle.std.specs.Prelude.{None}
use Rattle.word_core.specs.Cube.{holds}
use Rattle.word_core.specs.Machine.{choice}
use Rattle.witness_check.proofs.choices.meets_any.Given as goal

abbrev pub invariant-loop-line : goal.invariant-loop-line
invariant-loop-line l = (x : ℕ) → holds l.cube x ≡ true → choice (take l.line-index l.lines) x ≡ None
