use Rattle.std.proofs.Common.{[], append-nil, sym, ◌∙◌}
use Rattle.machine_text.specs.Fields.{valuation}
use Rattle.machine_text.proofs.LassoLaws.{no_letter_behind}
use Rattle.machine_text.proofs.lassos.letter_of.Goals as goal

pub returns-in_err-bits : goal.returns-in_err-bits
returns-in_err-bits c =
    rw c.from_residual.ensures (λ l. c.in_err-bits.ensures l.0 [] l.1 (l.2 ∙ sym (append-nil (valuation c.args.signals l.0))))

pub returns-else-is_empty : goal.returns-else-is_empty
returns-else-is_empty c =
    no_letter_behind c.args.signals c.in_ok-bits.bits c.args.line.now c.in_ok-bits.rest.now c.in_ok-bits.ensures.0 c.in_ok-bits.ensures.1 c.if-is_empty.ensures
