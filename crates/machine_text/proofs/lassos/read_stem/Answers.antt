use Rattle.std.proofs.Common.{codes}
use Rattle.machine_text.specs.declared.errors.LassoError.TheVariants.{Line}
use Rattle.machine_text.specs.Lassos.{HasStemFault}
use Rattle.machine_text.proofs.LassoLaws.{stem_unfed, stem_other, stem_closed, one_more, read_more, fits_more}
use Rattle.machine_text.proofs.LineSplits.{differs, agrees, passed_on}
use Rattle.machine_text.proofs.lassos.read_stem.Goals as goal

pub returns-in_err-line-clause-fault : goal.returns-in_err-line-clause-fault
returns-in_err-line-clause-fault c =
    let loop = c.loop-letters in
    passed_on c.from_residual.result (Line c.in_err-line.field-0.0.0) (HasStemFault c.args.signals c.args.lines.now.taken c.args.lines.now.rest.now) c.from_residual.ensures.1
    (stem_unfed c.args.signals c.args.lines.now.taken loop.lines.taken c.in_err-line.field-0.0.0 c.args.lines.now.rest.now loop.lines.rest.now loop.letters.items loop.invariant.ranged loop.invariant.text loop.invariant.taken c.in_err-line.ensures.bad c.in_err-line.ensures.none)

pub returns-then-eq-clause-text : goal.returns-then-eq-clause-text
returns-then-eq-clause-text c =
    stem_closed c.args.signals c.args.lines.now.rest.now c.in_ok-line.line.now c.loop-letters.lines.rest.now c.next.new.self.rest.now c.loop-letters.letters.items c.loop-letters.invariant.text c.in_ok-line.ensures.fed (agrees c.in_ok-line.line.now c.as_slice.result.now (codes "cycle") c.eq.result c.eq.ensures c.as_slice.ensures c.if-eq.true)

pub returns-in_default-clause-fault : goal.returns-in_default-clause-fault
returns-in_default-clause-fault c =
    let loop = c.loop-letters in
    stem_other c.args.signals c.args.lines.now.taken loop.lines.taken c.next.new.self.taken c.args.lines.now.rest.now c.in_ok-line.line.now loop.lines.rest.now c.next.new.self.rest.now loop.letters.items loop.invariant.ranged loop.invariant.text loop.invariant.taken c.in_ok-line.ensures.counted c.in_ok-line.ensures.whole c.in_ok-line.ensures.fed c.in_default.ensures (differs c.in_ok-line.line.now c.as_slice.result.now (codes "cycle") c.eq.result c.eq.ensures c.as_slice.ensures c.if-eq.false)

pub loop-letters-preserved : goal.loop-letters-preserved
loop-letters-preserved c =
    let loop = c.loop-letters in
    record {
      ranged = fits_more c.args.signals loop.letters.items c.push.new.self.items c.in-Some.letter c.in_ok-push.ensures.items loop.invariant.ranged c.in-Some.ensures.0;
      text = read_more c.args.signals c.args.lines.now.rest.now c.in_ok-line.line.now c.next.new.self.rest.now loop.lines.rest.now loop.letters.items c.push.new.self.items c.in-Some.letter c.in_ok-push.ensures.items loop.invariant.text c.in_ok-line.ensures.fed c.in-Some.ensures.1;
      taken = one_more c.args.lines.now.taken loop.lines.taken c.next.new.self.taken loop.letters.items c.push.new.self.items c.in-Some.letter c.in_ok-push.ensures.items loop.invariant.taken c.in_ok-line.ensures.counted;
    }
