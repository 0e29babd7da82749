use Rattle.std.proofs.Common.{◌≡◌, subst}
use Rattle.ltl_form.specs.Form.{IsFormList}
use Rattle.ltl_form.proofs.Trees.{made_inserted, same_form}
use Rattle.indexmap.specs.IndexSet.{insert_key}
use Rattle.ltl_form.specs.contracts.forms.FormPartialEq.TheImpl.{eq-value}
use Rattle.ltl_form.proofs.forms.Forms.intern.Goals as goal

pub returns : goal.returns
returns c =
    let s = c.in_ok-at.ensures.stored in
    made_inserted eq-value.it same_form c.args.self.now c.insert_full.new.self.keys c.args.form c.in_ok-at.at
    (subst IsFormList c.self.view_is c.self.invariant)
    c.requires
    (subst (λ l. c.insert_full.new.self.keys ≡ insert_key eq-value.it l c.args.form) c.self.view_is c.in_ok-at.ensures.keys)
    s.0 s.1 s.2
