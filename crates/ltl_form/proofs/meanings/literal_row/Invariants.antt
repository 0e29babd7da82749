use Rattle.ltl_form.specs.Meaning.{tree_holds}
use Rattle.ltl_form.specs.Rows.{Tells}
use Rattle.ltl_form.specs.Tree.{literal}
use Rattle.ltl_form.proofs.meanings.literal_row.Given as goal

abbrev pub invariant-loop-p : goal.invariant-loop-p
invariant-loop-p l = Tells l.p (tree_holds l.w (literal l.signal l.positive)) l.row.items
