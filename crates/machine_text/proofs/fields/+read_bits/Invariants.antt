use Rattle.machine_text.proofs.fields.+read_bits.Given as goal

abbrev pub decreases-read_bits : goal.decreases-read_bits
decreases-read_bits l = l.width
