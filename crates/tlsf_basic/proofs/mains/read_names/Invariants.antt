use Rattle.std.proofs.Common.{◌≡◌, ◌-◌, length}
use Rattle.tlsf_basic.specs.Reads.{passes}
use Rattle.tlsf_basic.specs.Marks.{in_braces}
use Rattle.tlsf_basic.specs.Mains.{name_turn}
use Rattle.tlsf_basic.proofs.mains.read_names.Given as goal

abbrev pub invariant-loop : goal.invariant-loop
invariant-loop l =
    passes in_braces name_turn (l.end - l.counter) l.rest ≡ passes in_braces name_turn (length l.tokens) l.tokens
