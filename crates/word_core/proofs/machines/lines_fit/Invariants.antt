use Rattle.std.proofs.Common.{ℕ, ◌<◌, slice_index_or}
use Rattle.word_core.specs.declared.machines.Line.{Line}
use Rattle.word_core.specs.Machine.{IsLine}
use Rattle.word_core.proofs.machines.lines_fit.Given as goal

abbrev pub invariant-loop-line : goal.invariant-loop-line
invariant-loop-line l = (k : ℕ) (d : Line) → k < l.line-index → IsLine l.own l.others l.count (slice_index_or l.lines k d)
