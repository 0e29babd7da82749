use Rattle.std.proofs.Common.{◌≡◌, ◌-◌, length, drop}
use Rattle.tlsf_basic.specs.Reads.{passes}
use Rattle.tlsf_basic.specs.Marks.{mark, is_comma, is_name}
use Rattle.tlsf_basic.proofs.headings.further_tags.Given as goal

abbrev pub invariant-loop : goal.invariant-loop
invariant-loop l =
    passes is_comma (λ u. mark is_name (drop 1 u)) (l.end - l.counter) l.rest
    ≡ passes is_comma (λ u. mark is_name (drop 1 u)) (length l.tokens) l.tokens
