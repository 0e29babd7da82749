use Rattle.bonsai_run.proofs.Appends.{stops, goes_on}
use Rattle.bonsai_run.proofs.writing.write_three.Goals as goal

pub returns-in_err-write_line : goal.returns-in_err-write_line
returns-in_err-write_line g c = stops _ _ _ _ _ _ _ _ c.from_residual.ensures.0 c.in_err-write_line.ensures

pub returns-in_err-write_line-2 : goal.returns-in_err-write_line-2
returns-in_err-write_line-2 g c = goes_on _ _ _ _ _ _ _ _ _ _ c.in_ok-write_line.ensures (stops _ _ _ _ _ _ _ _ c.from_residual-in_err-write_line-2.ensures.0 c.in_err-write_line-2.ensures)

pub returns : goal.returns
returns g c = goes_on _ _ _ _ _ _ _ _ _ _ c.in_ok-write_line.ensures (goes_on _ _ _ _ _ _ _ _ _ _ c.in_ok-write_line-2.ensures c.write_line-3.ensures)
