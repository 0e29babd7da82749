use Rattle.std.proofs.Common.{◌≡◌, ◌+◌, codes}
use Rattle.machine_text.specs.Lines.{NextIsNone}
use Rattle.machine_text.proofs.LineSplits.{none_without_feed, none_of, differs, passed_on}
use Rattle.machine_text.proofs.lassos.read_stem_line.Goals as goal

pub returns-in_err-line-clause-bad : goal.returns-in_err-line-clause-bad
returns-in_err-line-clause-bad c =
    passed_on c.from_residual.result c.in_err-line.field-0.0 (λ e. (e.0 ≡ c.args.lines.now.taken + 1) × NextIsNone (λ line. line ≡ codes "stem") c.args.lines.now.rest.now) c.from_residual.ensures.1
    (c.in_err-line.ensures.bad, none_without_feed (λ line. line ≡ codes "stem") c.args.lines.now.rest.now c.in_err-line.ensures.none)

pub returns-else-eq-clause-bad : goal.returns-else-eq-clause-bad
returns-else-eq-clause-bad c = (
  c.in_ok-line.ensures.counted,
  none_of (λ line. line ≡ codes "stem") c.args.lines.now.rest.now c.in_ok-line.line.now c.next.new.self.rest.now c.in_ok-line.ensures.whole c.in_ok-line.ensures.fed (differs c.in_ok-line.line.now c.as_slice.result.now (codes "stem") c.eq.result c.eq.ensures c.as_slice.ensures c.if-eq.false),
)
