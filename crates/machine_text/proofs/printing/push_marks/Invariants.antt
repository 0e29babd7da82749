use Rattle.std.proofs.Common.{◌≡◌, ◌-◌, ◌++◌}
use Rattle.machine_text.specs.Fields.{marks_of}
use Rattle.machine_text.proofs.printing.push_marks.Given as goal

abbrev pub invariant-loop : goal.invariant-loop
invariant-loop l =
    l.text.items ++ marks_of (l.width - l.counter) l.care l.want ≡ l.fn.text.items ++ marks_of l.width l.fn.cube.care l.fn.cube.want
