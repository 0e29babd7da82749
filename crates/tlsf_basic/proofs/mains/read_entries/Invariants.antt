use Rattle.std.proofs.Common.{◌≡◌, ◌-◌, length}
use Rattle.tlsf_basic.specs.Reads.{turns}
use Rattle.tlsf_basic.specs.Marks.{in_braces}
use Rattle.tlsf_basic.specs.Mains.{read_entry}
use Rattle.tlsf_basic.proofs.mains.read_entries.Given as goal

abbrev pub invariant-loop : goal.invariant-loop
invariant-loop l =
    turns in_braces (read_entry 256 l.section) (l.end - l.counter) l.sections l.rest
    ≡ turns in_braces (read_entry 256 l.section) (length l.tokens) l.fn.sections l.tokens
