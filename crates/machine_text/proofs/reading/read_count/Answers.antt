use Rattle.std.proofs.Common.{◌≡◌, ◌+◌}
use Rattle.machine_text.specs.Lines.{NextIsNone}
use Rattle.machine_text.specs.Reading.{IsCountLine}
use Rattle.machine_text.proofs.LineSplits.{none_without_feed, none_of, passed_on}
use Rattle.machine_text.proofs.ReadLaws.{count_none, count_zero}
use Rattle.machine_text.proofs.reading.read_count.Goals as goal

pub returns-in_err-line-clause-bad : goal.returns-in_err-line-clause-bad
returns-in_err-line-clause-bad c =
    passed_on c.from_residual.result c.in_err-line.field-0.0 (λ e. (e.0 ≡ c.args.lines.now.taken + 1) × NextIsNone (IsCountLine) c.args.lines.now.rest.now) c.from_residual.ensures.1
    (c.in_err-line.ensures.bad, none_without_feed (IsCountLine) c.args.lines.now.rest.now c.in_err-line.ensures.none)

pub returns-in_default-clause-bad : goal.returns-in_default-clause-bad
returns-in_default-clause-bad c = (
  c.in_ok-line.ensures.counted,
  none_of (IsCountLine) c.args.lines.now.rest.now c.in_ok-line.line.now c.next.new.self.rest.now c.in_ok-line.ensures.whole c.in_ok-line.ensures.fed (count_none c.in_ok-line.line.now c.in_default.ensures),
)

pub returns-then-count-eq0-clause-bad : goal.returns-then-count-eq0-clause-bad
returns-then-count-eq0-clause-bad c = (
  c.in_ok-line.ensures.counted,
  none_of (IsCountLine) c.args.lines.now.rest.now c.in_ok-line.line.now c.next.new.self.rest.now c.in_ok-line.ensures.whole c.in_ok-line.ensures.fed (count_zero c.in_ok-line.line.now c.in-Some.count c.if-count-eq0.true c.in-Some.ensures),
)
