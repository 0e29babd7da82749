use Rattle.std.proofs.Common.{arith}
use Rattle.std.proofs.lemmas.Bool.{both_ways}
use Rattle.machine_text.proofs.ReadLaws.{not_within}
use Rattle.machine_text.proofs.reading.entry_within.Goals as goal

pub returns-else-is_within : goal.returns-else-is_within
returns-else-is_within c =
    let h = c.in_ok-entry.ensures in
    not_within c.args.own c.args.others c.args.from c.args.count c.args.line.now c.in_ok-entry.entry (omega (arith, c.ranges.count.fits)) h.0 h.1 h.2 h.3 h.4 (λ e. both_ways c.is_within.result c.if-is_within.false (c.is_within.ensures.no e))
