use Rattle.std.proofs.Common.{◌≡◌, ◌+◌, codes}
use Rattle.machine_text.specs.Lines.{NextIsNone}
use Rattle.machine_text.specs.Reading.{IsNumberLine}
use Rattle.machine_text.proofs.LineSplits.{none_without_feed, none_of, passed_on}
use Rattle.machine_text.proofs.reading.read_bound.Goals as goal

pub returns-in_err-line-clause-bad : goal.returns-in_err-line-clause-bad
returns-in_err-line-clause-bad c =
    passed_on c.from_residual.result c.in_err-line.field-0.0 (λ e. (e.0 ≡ c.args.lines.now.taken + 1) × NextIsNone (IsNumberLine (codes "bound ")) c.args.lines.now.rest.now) c.from_residual.ensures.1
    (c.in_err-line.ensures.bad, none_without_feed (IsNumberLine (codes "bound ")) c.args.lines.now.rest.now c.in_err-line.ensures.none)

pub returns-in-None-clause-bad : goal.returns-in-None-clause-bad
returns-in-None-clause-bad c = (
  c.in_ok-line.ensures.counted,
  none_of (IsNumberLine (codes "bound ")) c.args.lines.now.rest.now c.in_ok-line.line.now c.next.new.self.rest.now c.in_ok-line.ensures.whole c.in_ok-line.ensures.fed (c.in-None.ensures),
)
