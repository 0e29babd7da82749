use Rattle.std.proofs.Common.{◌+◌, ◌-◌, ◌/◌, ◌∙◌, ap, ◌++◌}
use Rattle.machine_text.specs.Fields.{chars_of}
use Rattle.machine_text.proofs.FieldLaws.{chars_left}
use Rattle.machine_text.proofs.printing.push_bits.Goals as goal

pub loop-preserved : goal.loop-preserved
loop-preserved c =
    ap (λ t. t ++ chars_of (c.args.width - (c.loop.counter + 1)) (c.loop.left / 2)) c.in_ok-push.ensures.items
    ∙ chars_left c.loop.text.items c.args.width c.loop.counter c.loop.left c.loop-test.true
    ∙ c.loop.invariant
