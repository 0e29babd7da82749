use Rattle.std.proofs.Common.{◌≡◌, length}
use Rattle.machine_text.specs.Reading.{AreRead, last_state}
use Rattle.machine_text.proofs.reading.read_entries.Given as goal

abbrev pub invariant-loop-lines : goal.invariant-loop-lines
invariant-loop-lines l = record {
  read : AreRead l.own l.others l.count l.fn.lines.rest.now l.lines.rest.now l.fn.lines.taken l.lines.taken l.entries.items;
  last : l.from ≡ last_state 0 l.entries.items;
}

abbrev pub decreases-loop-lines : goal.decreases-loop-lines
decreases-loop-lines l = length l.lines.rest.now
