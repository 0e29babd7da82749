use Rattle.ltl_form.proofs.Trees.{tree_at-is}
use Rattle.ltl_form.proofs.numberings.form_at.Goals as goal

pub returns-clause-tree : goal.returns-clause-tree
returns-clause-tree c = tree_at-is c.args.forms.now c.requires.forms c.args.at c.requires.place
