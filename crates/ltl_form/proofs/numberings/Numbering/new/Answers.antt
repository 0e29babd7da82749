use Rattle.ltl_form.proofs.NodeLists.{numbered_nil}
use Rattle.ltl_form.proofs.numberings.Numbering.new.Goals as goal

pub invariant_of-result : goal.invariant_of-result
invariant_of-result c = numbered_nil c.new.result.keys c.new.ensures.empty
