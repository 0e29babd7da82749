use Rattle.std.proofs.Common.{◌≡◌, ◌++◌, length, drop, slice_index_or}
use Rattle.std.specs.List.{All}
use Rattle.word_core.specs.Machine.{IsLine}
use Rattle.machine_text.specs.declared.reading.Entry.{Entry}
use Rattle.machine_text.specs.Reading.{first_lines, behind_state}
use Rattle.machine_text.proofs.reading.lines_of.Given as goal

abbrev pub invariant-loop-entry : goal.invariant-loop-entry
invariant-loop-entry l = record {
  first : (d : Entry) → l.state ≡ (slice_index_or l.entries 0 d).state;
  counted : length l.lines.items ≡ l.entry-index;
  ranged : All (IsLine l.own l.others l.count) l.lines.items;
  lines : l.lines.items ++ first_lines l.state (drop l.entry-index l.entries) ≡ first_lines l.state l.entries;
  rest : behind_state l.state (drop l.entry-index l.entries) ≡ behind_state l.state l.entries;
}
