use Rattle.std.proofs.Common.{◌≡◌, ℕ, ◌<◌, true, take}
use Rattle.std.specs.Prelude.{None, Some, slice_get}
use Rattle.word_core.specs.declared.machines.Line.{Line}
use Rattle.word_core.specs.Cube.{holds}
use Rattle.word_core.specs.Machine.{choice}
use Rattle.witness_check.proofs.choices.are_apart.Given as goal

abbrev pub invariant-loop-number : goal.invariant-loop-number
invariant-loop-number l =
    (i : ℕ) (y : Line) → i < l.number → slice_get l.lines i ≡ Some y → (x : ℕ) → holds y.when x ≡ true → choice (take i l.lines) x ≡ None
