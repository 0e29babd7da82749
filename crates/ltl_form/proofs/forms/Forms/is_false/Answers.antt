use Rattle.std.proofs.Common.{rules, subst}
use Rattle.ltl_form.specs.Form.{IsFormList}
use Rattle.ltl_form.proofs.Trees.{reads_falsity}
use Rattle.ltl_form.proofs.forms.Forms.is_false.Goals as goal

pub returns : goal.returns
returns c =
    let h = reads_falsity c.args.self.now (subst IsFormList c.self.view_is c.self.invariant) c.args.at c.requires in
    search (rules, h)
