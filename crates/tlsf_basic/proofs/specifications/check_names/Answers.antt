use Rattle.tlsf_basic.proofs.Refusals.{name_repeated, name_undeclared}
use Rattle.tlsf_basic.proofs.specifications.check_names.Goals as goal

pub returns-in-Some-clause-fault : goal.returns-in-Some-clause-fault
returns-in-Some-clause-fault c = name_repeated c.args.text.now c.args.lexemes.now c.in-Some.place (rw c.in-Some.is at c.in_ok-place.ensures.some)

pub returns-in-Some-first_unknown-clause-fault : goal.returns-in-Some-first_unknown-clause-fault
returns-in-Some-first_unknown-clause-fault c =
    name_undeclared c.args.text.now c.args.lexemes.now c.in-Some-first_unknown.place (rw c.in_default.is at c.in_ok-place.ensures.none) c.in-Some-first_unknown.ensures.first
