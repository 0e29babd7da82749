use Rattle.machine_text.specs.declared.errors.LassoError.TheVariants.{Line}
use Rattle.machine_text.specs.Lassos.{HasCycleFault}
use Rattle.machine_text.proofs.LassoLaws.{cycle_unfed, cycle_other, one_more, read_more, read_last, not_last, fits_more}
use Rattle.machine_text.proofs.LineSplits.{passed_on}
use Rattle.machine_text.proofs.lassos.read_cycle.Goals as goal

pub returns-in_err-line-clause-fault : goal.returns-in_err-line-clause-fault
returns-in_err-line-clause-fault c =
    let loop = c.loop-letters in
    passed_on c.from_residual.result (Line c.in_err-line.field-0.0.0) (HasCycleFault c.args.signals c.args.lines.now.taken c.args.lines.now.rest.now) c.from_residual.ensures.1
    (cycle_unfed c.args.signals c.args.lines.now.taken loop.lines.taken c.in_err-line.field-0.0.0 c.args.lines.now.rest.now loop.lines.rest.now loop.letters.items loop.invariant.ranged loop.invariant.text loop.invariant.taken c.in_err-line.ensures.bad loop.invariant.some c.in_err-line.ensures.none)

pub returns-in_default-clause-fault : goal.returns-in_default-clause-fault
returns-in_default-clause-fault c =
    let loop = c.loop-letters in
    cycle_other c.args.signals c.args.lines.now.taken loop.lines.taken c.next.new.self.taken c.args.lines.now.rest.now c.in_ok-line.line.now loop.lines.rest.now c.next.new.self.rest.now loop.letters.items loop.invariant.ranged loop.invariant.text loop.invariant.taken c.in_ok-line.ensures.counted loop.invariant.some c.in_ok-line.ensures.whole c.in_ok-line.ensures.fed c.in_default.ensures

pub returns-then-is_empty-clause-text : goal.returns-then-is_empty-clause-text
returns-then-is_empty-clause-text c =
    read_last c.args.signals c.args.lines.now.rest.now c.next.new.self.rest.now c.push.new.self.items
    (read_more c.args.signals c.args.lines.now.rest.now c.in_ok-line.line.now c.next.new.self.rest.now c.loop-letters.lines.rest.now c.loop-letters.letters.items c.push.new.self.items c.in-Some.letter c.in_ok-push.ensures.items c.loop-letters.invariant.text c.in_ok-line.ensures.fed c.in-Some.ensures.1)
    c.if-is_empty.ensures

pub loop-letters-preserved : goal.loop-letters-preserved
loop-letters-preserved c =
    let loop = c.loop-letters in
    record {
      ranged = fits_more c.args.signals loop.letters.items c.push.new.self.items c.in-Some.letter c.in_ok-push.ensures.items loop.invariant.ranged c.in-Some.ensures.0;
      text = read_more c.args.signals c.args.lines.now.rest.now c.in_ok-line.line.now c.next.new.self.rest.now loop.lines.rest.now loop.letters.items c.push.new.self.items c.in-Some.letter c.in_ok-push.ensures.items loop.invariant.text c.in_ok-line.ensures.fed c.in-Some.ensures.1;
      taken = one_more c.args.lines.now.taken loop.lines.taken c.next.new.self.taken loop.letters.items c.push.new.self.items c.in-Some.letter c.in_ok-push.ensures.items loop.invariant.taken c.in_ok-line.ensures.counted;
      some = not_last c.next.new.self.rest.now c.push.new.self.items c.if-is_empty.ensures;
    }
