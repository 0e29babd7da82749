use Rattle.machine_text.specs.declared.errors.MachineError.TheVariants.{Line}
use Rattle.machine_text.specs.Reading.{HasEntryFault}
use Rattle.machine_text.proofs.LineSplits.{passed_on}
use Rattle.machine_text.proofs.ReadEntries.{entries_unfed, entries_other, read_entry_more, last_more}
use Rattle.machine_text.proofs.reading.read_entries.Goals as goal

pub returns-in_err-line-clause-fault : goal.returns-in_err-line-clause-fault
returns-in_err-line-clause-fault c =
    let loop = c.loop-lines in
    passed_on c.from_residual.result (Line c.in_err-line.field-0.0.0) (HasEntryFault c.args.own c.args.others c.args.count c.args.lines.now.rest.now c.args.lines.now.taken) c.from_residual.ensures.1
    (entries_unfed c.args.own c.args.others c.args.count c.args.lines.now.taken loop.lines.taken c.in_err-line.field-0.0.0 c.args.lines.now.rest.now loop.lines.rest.now loop.entries.items loop.invariant.read c.in_err-line.ensures.bad c.loop-lines-test.ensures c.in_err-line.ensures.none)

pub returns-in_default-clause-fault : goal.returns-in_default-clause-fault
returns-in_default-clause-fault c =
    let loop = c.loop-lines in
    entries_other c.args.own c.args.others c.args.count c.args.lines.now.taken loop.lines.taken c.next.new.self.taken loop.from c.args.lines.now.rest.now c.in_ok-line.line.now loop.lines.rest.now c.next.new.self.rest.now loop.entries.items loop.invariant.read c.in_ok-line.ensures.counted c.loop-lines-test.ensures c.in_ok-line.ensures.whole c.in_ok-line.ensures.fed loop.invariant.last c.in_default.ensures

pub loop-lines-preserved : goal.loop-lines-preserved
loop-lines-preserved c =
    let loop = c.loop-lines in
    record {
      read = read_entry_more c.args.own c.args.others c.args.count c.args.lines.now.rest.now c.in_ok-line.line.now c.next.new.self.rest.now loop.lines.rest.now c.args.lines.now.taken loop.lines.taken c.next.new.self.taken loop.from loop.entries.items c.push.new.self.items c.in-Some.entry loop.invariant.read c.in_ok-push.ensures.items c.in_ok-line.ensures.fed c.in_ok-line.ensures.counted loop.invariant.last c.in-Some.ensures;
      last = last_more loop.entries.items c.push.new.self.items c.in-Some.entry c.in_ok-push.ensures.items;
    }
