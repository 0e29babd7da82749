use Rattle.std.proofs.Common.{◌≡◌, ◌+◌, ◌++◌, length}
use Rattle.machine_text.specs.Lassos.{letter_lines, AreLetters}
use Rattle.machine_text.specs.Lines.{joined}
use Rattle.machine_text.proofs.lassos.read_stem.Given as goal

abbrev pub invariant-loop-letters : goal.invariant-loop-letters
invariant-loop-letters l = record {
  ranged : AreLetters l.signals l.letters.items;
  text : l.fn.lines.rest.now ≡ joined (letter_lines l.signals l.letters.items) ++ l.lines.rest.now;
  taken : l.lines.taken ≡ l.fn.lines.taken + length l.letters.items;
}

abbrev pub decreases-loop-letters : goal.decreases-loop-letters
decreases-loop-letters l = length l.lines.rest.now
