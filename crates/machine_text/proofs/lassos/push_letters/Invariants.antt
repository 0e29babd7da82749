use Rattle.std.proofs.Common.{◌≡◌, ◌++◌, drop}
use Rattle.machine_text.specs.Lassos.{letter_lines}
use Rattle.machine_text.specs.Lines.{joined}
use Rattle.machine_text.proofs.lassos.push_letters.Given as goal

abbrev pub invariant-loop-letter : goal.invariant-loop-letter
invariant-loop-letter l =
    l.text.items ++ joined (letter_lines l.signals (drop l.letter-index l.letters)) ≡ l.fn.text.items ++ joined (letter_lines l.signals l.letters)
