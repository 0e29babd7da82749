use Rattle.machine_text.proofs.FieldLaws.{marks_some, marks_none_empty, marks_none_char, marks_none_rest}
use Rattle.machine_text.proofs.fields.+read_marks.Goals as goal

pub returns-in_err-first : goal.returns-in_err-first
returns-in_err-first t c =
    rw c.from_residual.ensures (marks_none_empty c.args.width c.args.text.now c.if-width-eq0.false c.in_err-first.ensures)

pub returns-in_err-care : goal.returns-in_err-care
returns-in_err-care t c =
    rw c.from_residual-in_err-care.ensures (marks_none_char c.args.width c.in_ok-first.first c.args.text.now c.in_ok-first.rest.now c.if-width-eq0.false c.in_ok-first.ensures c.in_err-care.ensures)

pub returns-in_err-cube : goal.returns-in_err-cube
returns-in_err-cube t c =
    rw c.from_residual-in_err-cube.ensures (marks_none_rest c.args.width c.in_ok-first.first c.args.text.now c.in_ok-first.rest.now c.if-width-eq0.false c.in_ok-first.ensures c.in_err-cube.ensures)

pub returns : goal.returns
returns t c =
    marks_some c.args.width c.in_ok-first.first c.in_ok-care.care c.in_ok-care.want c.in_ok-cube.cube.care c.in_ok-cube.cube.want c.args.text.now c.in_ok-first.rest.now c.in_ok-cube.rest.now c.if-width-eq0.false c.in_ok-first.ensures c.in_ok-care.ensures c.in_ok-cube.ensures
