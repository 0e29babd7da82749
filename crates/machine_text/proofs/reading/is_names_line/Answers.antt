use Rattle.std.proofs.Common.{◌≡◌}
use Rattle.machine_text.specs.Machines.{names_text, spaced}
use Rattle.machine_text.proofs.ReadLaws.{names_first, names_yes, names_no}
use Rattle.machine_text.proofs.reading.is_names_line.Goals as goal

pub loop-name-init : goal.loop-name-init
loop-name-init c =
    let p = names_first c.args.line.now c.args.word.now c.in-Some.rest.now (spaced c.args.names.now) c.in-Some.ensures in
    record { yes = p.0; no = p.1 }

pub loop-name-preserved : goal.loop-name-preserved
loop-name-preserved c = record {
  yes = names_yes c.args.names.now c.loop-name.name-index c.name-item.result (c.args.line.now ≡ names_text c.args.word.now c.args.names.now) c.loop-name.rest.now c.in-Some-behind.spaced.now c.as_bytes.result.now c.in-Some-behind-2.next.now c.loop-name-test.true c.name-item.is c.as_bytes.ensures.value c.in-Some-behind.ensures c.in-Some-behind-2.ensures c.loop-name.invariant.yes;
  no = names_no c.args.names.now c.loop-name.name-index c.name-item.result (c.args.line.now ≡ names_text c.args.word.now c.args.names.now) c.loop-name.rest.now c.in-Some-behind.spaced.now c.as_bytes.result.now c.in-Some-behind-2.next.now c.loop-name-test.true c.name-item.is c.as_bytes.ensures.value c.in-Some-behind.ensures c.in-Some-behind-2.ensures c.loop-name.invariant.no;
}
