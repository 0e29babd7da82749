use Rattle.std.proofs.Common.{◌≡◌, ◌++◌, drop}
use Rattle.machine_text.specs.Lines.{joined}
use Rattle.machine_text.specs.Machines.{states_lines, machine_text}
use Rattle.machine_text.proofs.printing.print_machine.Given as goal

abbrev pub invariant-loop-state : goal.invariant-loop-state
invariant-loop-state l =
    l.text.items ++ joined (states_lines l.own l.others l.state (drop l.state l.m.states)) ≡ machine_text l.names l.m
