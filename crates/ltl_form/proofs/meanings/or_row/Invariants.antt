use Rattle.std.proofs.Common.{◌||◌}
use Rattle.ltl_form.specs.Rows.{at, Tells}
use Rattle.ltl_form.proofs.meanings.or_row.Given as goal

abbrev pub invariant-loop-p : goal.invariant-loop-p
invariant-loop-p l = Tells l.p (λ p. at l.fs p || at l.gs p) l.row.items
