use Rattle.std.proofs.Common.{sym, arith}
use Rattle.shelf_io.specs.Written.{appended-nil}
use Rattle.bonsai_run.proofs.Appends.{begun_stops, begun_goes_on}
use Rattle.bonsai_run.proofs.writing.write_lines.Goals as goal

pub loop-done-init : goal.loop-done-init
loop-done-init g c = (omega arith, sym (appended-nil _), omega arith)

pub returns-in_err-write_line : goal.returns-in_err-write_line
returns-in_err-write_line g c =
    begun_stops _ _ _ _ _ _ _ _ _ _ _ c.from_residual.ensures.0 c.loop-done.invariant.1 c.loop-done.invariant.2 (omega arith) c.in_err-write_line.ensures

pub loop-done-preserved : goal.loop-done-preserved
loop-done-preserved g c =
    let p = begun_goes_on _ _ _ _ _ _ _ _ _ _ c.loop-done.invariant.1 c.loop-done.invariant.2 (omega arith) c.in_ok-write_line.ensures in
    (c.line_end-end.ensures.within, p.0, p.1)
