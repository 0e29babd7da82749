use Rattle.std.proofs.lemmas.Bool.{both_ways}
use Rattle.machine_text.specs.Reading.{HasNoOwner}
use Rattle.machine_text.proofs.HeadLaws.{owner_unfed, owner_other, bound_bad, owner_if, led_if}
use Rattle.machine_text.proofs.LineSplits.{passed_on}
use Rattle.machine_text.proofs.reading.read_owner.Goals as goal

pub returns-in_err-line-clause-bad : goal.returns-in_err-line-clause-bad
returns-in_err-line-clause-bad c =
    passed_on c.from_residual.result c.in_err-line.field-0.0 (λ e. HasNoOwner c.args.target c.args.lines.now.rest.now c.args.lines.now.taken e.0) c.from_residual.ensures.1
    (owner_unfed c.args.target c.args.lines.now.rest.now c.args.lines.now.taken c.in_err-line.field-0.0.0 c.in_err-line.ensures.none c.in_err-line.ensures.bad)

pub returns-in_err-read_bound-clause-bad : goal.returns-in_err-read_bound-clause-bad
returns-in_err-read_bound-clause-bad c =
    passed_on c.from_residual-in_err-read_bound.result c.in_err-read_bound.field-0.0 (λ e. HasNoOwner c.args.target c.args.lines.now.rest.now c.args.lines.now.taken e.0) c.from_residual-in_err-read_bound.ensures.1
    (bound_bad c.args.target c.args.lines.now.rest.now c.in_ok-line.line.now c.next.new.self.rest.now c.args.lines.now.taken c.next.new.self.taken c.in_err-read_bound.field-0.0.0 (c.is_verdict.ensures.yes c.if-is_verdict.true) c.in_ok-line.ensures.fed c.in_ok-line.ensures.counted c.in_err-read_bound.ensures.bad)

pub returns-then-is_verdict-clause-led : goal.returns-then-is_verdict-clause-led
returns-then-is_verdict-clause-led c =
    let h = c.read_owner_line.ensures in
    led_if c.args.target c.read_owner_line.result c.args.lines.now.rest.now c.in_ok-line.line.now c.next.new.self.rest.now c.read_bound.new.lines.rest.now c.read_owner_line.new.lines.rest.now c.args.lines.now.taken c.next.new.self.taken c.read_bound.new.lines.taken c.read_owner_line.new.lines.taken (c.is_verdict.ensures.yes c.if-is_verdict.true) c.in_ok-line.ensures.fed c.in_ok-line.ensures.counted c.in_ok-read_bound.ensures.ok h.fits h.line h.taken

pub returns-then-is_verdict-clause-bad : goal.returns-then-is_verdict-clause-bad
returns-then-is_verdict-clause-bad c =
    owner_if c.args.target c.read_owner_line.result c.args.lines.now.rest.now c.in_ok-line.line.now c.next.new.self.rest.now c.read_bound.new.lines.rest.now c.args.lines.now.taken c.next.new.self.taken c.read_bound.new.lines.taken (c.is_verdict.ensures.yes c.if-is_verdict.true) c.in_ok-line.ensures.fed c.in_ok-line.ensures.counted c.in_ok-read_bound.ensures.ok c.read_owner_line.ensures.bad

pub returns-in-None-clause-bad : goal.returns-in-None-clause-bad
returns-in-None-clause-bad c =
    owner_other c.args.target c.args.lines.now.rest.now c.in_ok-line.line.now c.next.new.self.rest.now c.args.lines.now.taken c.next.new.self.taken c.in_ok-line.ensures.whole c.in_ok-line.ensures.fed (λ e. both_ways c.is_verdict.result c.if-is_verdict.false (c.is_verdict.ensures.no e)) c.in-None.ensures c.in_ok-line.ensures.counted
