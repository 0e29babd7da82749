use Rattle.std.proofs.Common.{◌≡◌, drop}
use Rattle.machine_text.specs.Machines.{names_text, spaced}
use Rattle.machine_text.proofs.reading.is_names_line.Given as goal

abbrev pub invariant-loop-name : goal.invariant-loop-name
invariant-loop-name l = record {
  yes : l.rest ≡ spaced (drop l.name-index l.names) → l.line ≡ names_text l.word l.names;
  no : l.line ≡ names_text l.word l.names → l.rest ≡ spaced (drop l.name-index l.names);
}
