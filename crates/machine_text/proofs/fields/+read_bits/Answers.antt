use Rattle.machine_text.proofs.FieldLaws.{bits_some, bits_none_empty, bits_none_char, bits_none_rest}
use Rattle.machine_text.proofs.fields.+read_bits.Goals as goal

pub returns-in_err-first : goal.returns-in_err-first
returns-in_err-first t c =
    rw c.from_residual.ensures (bits_none_empty c.args.width c.args.text.now c.if-width-eq0.false c.in_err-first.ensures)

pub returns-in_err-bit : goal.returns-in_err-bit
returns-in_err-bit t c =
    rw c.from_residual-in_err-bit.ensures (bits_none_char c.args.width c.in_ok-first.first c.args.text.now c.in_ok-first.rest.now c.if-width-eq0.false c.in_ok-first.ensures c.in_err-bit.ensures)

pub returns-in_err-bits : goal.returns-in_err-bits
returns-in_err-bits t c =
    rw c.from_residual-in_err-bits.ensures (bits_none_rest c.args.width c.in_ok-first.first c.args.text.now c.in_ok-first.rest.now c.if-width-eq0.false c.in_ok-first.ensures c.in_err-bits.ensures)

pub returns : goal.returns
returns t c =
    bits_some c.args.width c.in_ok-first.first c.in_ok-bit.bit c.in_ok-bits.bits c.args.text.now c.in_ok-first.rest.now c.in_ok-bits.rest.now c.if-width-eq0.false c.in_ok-first.ensures c.in_ok-bit.ensures c.in_ok-bits.ensures
