use Rattle.std.proofs.Common.{◌≡◌, ◌++◌, drop}
use Rattle.machine_text.specs.Lines.{joined}
use Rattle.machine_text.specs.Machines.{state_lines}
use Rattle.machine_text.proofs.printing.push_state.Given as goal

abbrev pub invariant-loop-line : goal.invariant-loop-line
invariant-loop-line l =
    l.text.items ++ joined (state_lines l.widths.0 l.widths.1 l.state (drop l.line-index l.lines)) ≡ l.fn.text.items ++ joined (state_lines l.widths.0 l.widths.1 l.state l.lines)
