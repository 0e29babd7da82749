use Rattle.std.proofs.Common.{◌≡◌, ◌-◌, length}
use Rattle.tlsf_basic.specs.Reads.{turns}
use Rattle.tlsf_basic.specs.Marks.{in_braces}
use Rattle.tlsf_basic.specs.Mains.{read_part}
use Rattle.tlsf_basic.specs.Values.{no_parts}
use Rattle.tlsf_basic.proofs.mains.read_parts.Given as goal

abbrev pub invariant-loop : goal.invariant-loop
invariant-loop l =
    turns in_braces (read_part 256) (l.end - l.counter) l.parts l.rest
    ≡ turns in_braces (read_part 256) (length l.tokens) no_parts l.tokens
