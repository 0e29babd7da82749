use Rattle.std.proofs.Common.{length, ◌-◌, ◌≡◌, ◌≤◌, take}
use Rattle.shelf_io.specs.Written.{appended}
use Rattle.bonsai_run.proofs.writing.write_lines.Given as goal

abbrev pub invariant-loop-done : goal.invariant-loop-done
invariant-loop-done g l =
    (l.done ≤ length l.text)
    × (g.O.Sink.written l.out ≡ appended (g.O.Sink.written l.fn.out) (take l.done l.text))
    × (g.O.Sink.faults l.fn.out ≤ g.O.Sink.faults l.out)

abbrev pub decreases-loop-done : goal.decreases-loop-done
decreases-loop-done g l = length l.text - l.done
