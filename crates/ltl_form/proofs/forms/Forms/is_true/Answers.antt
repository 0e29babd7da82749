use Rattle.std.proofs.Common.{rules, subst}
use Rattle.ltl_form.specs.Form.{IsFormList}
use Rattle.ltl_form.proofs.Trees.{reads_truth}
use Rattle.ltl_form.proofs.forms.Forms.is_true.Goals as goal

pub returns : goal.returns
returns c =
    let h = reads_truth c.args.self.now (subst IsFormList c.self.view_is c.self.invariant) c.args.at c.requires in
    search (rules, h)
