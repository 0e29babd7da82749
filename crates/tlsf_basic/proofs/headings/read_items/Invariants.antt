use Rattle.std.proofs.Common.{◌≡◌, ◌-◌, length}
use Rattle.tlsf_basic.specs.Reads.{turns}
use Rattle.tlsf_basic.specs.Marks.{in_braces}
use Rattle.tlsf_basic.specs.Headings.{read_item}
use Rattle.tlsf_basic.specs.Values.{no_items}
use Rattle.tlsf_basic.proofs.headings.read_items.Given as goal

abbrev pub invariant-loop : goal.invariant-loop
invariant-loop l =
    turns in_braces read_item (l.end - l.counter) l.items l.rest
    ≡ turns in_braces read_item (length l.tokens) no_items l.tokens
