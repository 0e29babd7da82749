use Rattle.machine_text.proofs.ReadLaws.{number_none, number_longer}
use Rattle.machine_text.proofs.reading.number_behind.Goals as goal

pub returns-in_err-number : goal.returns-in_err-number
returns-in_err-number c =
    rw c.from_residual-in_err-number.ensures (number_none c.args.word.now c.args.line.now c.in_ok-behind.field-0.now c.in_ok-behind.ensures c.in_err-number.ensures)

pub returns-else-is_empty : goal.returns-else-is_empty
returns-else-is_empty c =
    number_longer c.args.word.now c.args.line.now c.in_ok-behind.field-0.now c.in_ok-number.rest.now c.in_ok-number.number c.in_ok-behind.ensures c.in_ok-number.ensures c.if-is_empty.ensures
