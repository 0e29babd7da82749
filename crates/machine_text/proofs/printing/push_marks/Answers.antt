use Rattle.std.proofs.Common.{◌+◌, ◌-◌, ◌/◌, ◌∙◌, ap, ◌++◌, ◌∷◌, []}
use Rattle.machine_text.specs.Fields.{marks_of}
use Rattle.machine_text.proofs.FieldLaws.{marks_left}
use Rattle.machine_text.proofs.printing.push_marks.Goals as goal

pub loop-preserved : goal.loop-preserved
loop-preserved c =
    ap (λ t. t ++ marks_of (c.args.width - (c.loop.counter + 1)) (c.loop.care / 2) (c.loop.want / 2)) (c.in_ok-push.ensures.items ∙ ap (λ x. c.loop.text.items ++ x ∷ []) c.mark.ensures)
    ∙ marks_left c.loop.text.items c.args.width c.loop.counter c.loop.care c.loop.want c.loop-test.true
    ∙ c.loop.invariant
