use Rattle.bonsai_run.proofs.Appends.{stops, goes_on}
use Rattle.bonsai_run.proofs.writing.write_numbered.Goals as goal

pub returns-in_err-write_three : goal.returns-in_err-write_three
returns-in_err-write_three g c = stops _ _ _ _ _ _ _ _ c.from_residual.ensures.0 c.in_err-write_three.ensures

pub returns-in_err-write_digits : goal.returns-in_err-write_digits
returns-in_err-write_digits g c = goes_on _ _ _ _ _ _ _ _ _ _ c.in_ok-write_three.ensures (stops _ _ _ _ _ _ _ _ c.from_residual-in_err-write_digits.ensures.0 c.in_err-write_digits.ensures)

pub returns : goal.returns
returns g c = goes_on _ _ _ _ _ _ _ _ _ _ c.in_ok-write_three.ensures (goes_on _ _ _ _ _ _ _ _ _ _ c.in_ok-write_digits.ensures c.write_three-2.ensures)
