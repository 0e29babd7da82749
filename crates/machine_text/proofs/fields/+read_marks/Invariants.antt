use Rattle.machine_text.proofs.fields.+read_marks.Given as goal

abbrev pub decreases-read_marks : goal.decreases-read_marks
decreases-read_marks l = l.width
