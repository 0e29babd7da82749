use Rattle.std.proofs.Common.{◌≡◌, drop}
use Rattle.word_core.specs.Machine.{choice, lines_at}
use Rattle.word_core.proofs.machines.Machine.step.Given as goal

abbrev pub invariant-loop-line : goal.invariant-loop-line
invariant-loop-line l = choice (drop l.line-index (lines_at l.self l.state)) l.other ≡ choice (lines_at l.self l.state) l.other
