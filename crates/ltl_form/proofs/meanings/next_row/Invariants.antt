use Rattle.ltl_form.specs.Meaning.{after}
use Rattle.ltl_form.specs.Rows.{at, Tells}
use Rattle.ltl_form.proofs.meanings.next_row.Given as goal

abbrev pub invariant-loop-p : goal.invariant-loop-p
invariant-loop-p l = Tells l.p (λ p. at l.fs (after l.w p)) l.row.items
