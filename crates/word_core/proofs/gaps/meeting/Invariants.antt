use Rattle.std.proofs.Common.{◌≡◌, ℕ, ◌-◌, ◌≤◌, true, length, drop}
use Rattle.word_core.specs.Cube.{holds}
use Rattle.word_core.specs.Machine.{choice}
use Rattle.word_core.proofs.gaps.meeting.Given as goal

abbrev pub invariant-loop-from : goal.invariant-loop-from
invariant-loop-from l = record {
  within : l.from ≤ length l.lines;
  same : (x : ℕ) → holds l.inner x ≡ true → choice (drop l.from l.lines) x ≡ choice l.lines x;
}

abbrev pub decreases-loop-from : goal.decreases-loop-from
decreases-loop-from l = length l.initial.lines - l.from
