use Rattle.std.proofs.Common.{◌≡◌, ℕ, ◌<◌, slice_index_or}
use Rattle.word_core.specs.declared.machines.Line.{Line}
use Rattle.word_core.proofs.machines.has_one_own.Given as goal

abbrev pub invariant-loop-line : goal.invariant-loop-line
invariant-loop-line l = (k : ℕ) (d : Line) → k < l.line-index → (slice_index_or l.lines k d).own ≡ (slice_index_or l.lines 0 d).own
