use Rattle.std.proofs.Common.{◌≡◌, ◌+◌}
use Rattle.std.proofs.lemmas.Bool.{both_ways}
use Rattle.machine_text.specs.Lines.{NextIsNone}
use Rattle.machine_text.specs.Machines.{names_text}
use Rattle.machine_text.proofs.LineSplits.{none_without_feed, none_of, passed_on}
use Rattle.machine_text.proofs.reading.read_names.Goals as goal

pub returns-in_err-line-clause-bad : goal.returns-in_err-line-clause-bad
returns-in_err-line-clause-bad c =
    passed_on c.from_residual.result c.in_err-line.field-0.0 (λ e. (e.0 ≡ c.args.lines.now.taken + 1) × NextIsNone (λ line. line ≡ names_text c.args.word.now c.args.names.now) c.args.lines.now.rest.now) c.from_residual.ensures.1
    (c.in_err-line.ensures.bad, none_without_feed (λ line. line ≡ names_text c.args.word.now c.args.names.now) c.args.lines.now.rest.now c.in_err-line.ensures.none)

pub returns-else-is_names_line-clause-bad : goal.returns-else-is_names_line-clause-bad
returns-else-is_names_line-clause-bad c = (
  c.in_ok-line.ensures.counted,
  none_of (λ line. line ≡ names_text c.args.word.now c.args.names.now) c.args.lines.now.rest.now c.in_ok-line.line.now c.next.new.self.rest.now c.in_ok-line.ensures.whole c.in_ok-line.ensures.fed (λ e. both_ways c.is_names_line.result c.if-is_names_line.false (c.is_names_line.ensures.no e)),
)
