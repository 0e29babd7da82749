use Rattle.std.proofs.Common.{◌≡◌, ◌-◌, ◌++◌}
use Rattle.machine_text.specs.Fields.{chars_of}
use Rattle.machine_text.proofs.printing.push_bits.Given as goal

abbrev pub invariant-loop : goal.invariant-loop
invariant-loop l = l.text.items ++ chars_of (l.width - l.counter) l.left ≡ l.fn.text.items ++ chars_of l.width l.bits
