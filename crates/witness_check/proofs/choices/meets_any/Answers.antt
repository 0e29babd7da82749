use Rattle.witness_check.proofs.ChoiceLaws.{choice_more, not_both}
use Rattle.witness_check.proofs.choices.meets_any.Goals as goal

pub loop-line-preserved : goal.loop-line-preserved
loop-line-preserved c = λ x h.
    let lines = c.args.lines.now in
    choice_more lines c.loop-line.line-index _ x c.loop-line-test.true (c.loop-line.invariant x h) (not_both _ c.args.cube x c.in_default.ensures h)
