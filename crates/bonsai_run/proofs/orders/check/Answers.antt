use Rattle.std.proofs.Common.{subst, sym}
use Rattle.std.specs.Prelude.{IfErr}
use Rattle.bonsai_run.specs.declared.faults.Source.TheVariants.{Other}
use Rattle.bonsai_run.specs.Causes.{IsCheckFault, IsFetchFault}
use Rattle.bonsai_run.specs.Texts.{IsUnder}
use Rattle.bonsai_run.proofs.Causing.{check_causes, fetch_cause}
use Rattle.bonsai_run.proofs.orders.check.Goals as goal

pub returns-in-Ok-clause-answer : goal.returns-in-Ok-clause-answer
returns-in-Ok-clause-answer g c =
    let under = subst (λ t. IsUnder t c.args.machine.now c.in-Ok.text.items) c.in_ok-spec.ensures.texts_stay c.in-Ok.ensures.under in
    c.check_answer.ensures.answer (g.H.Shelf.texts c.args.shelf.now) c.args.name.now c.args.machine.now c.args.as_written c.in_ok-spec.ensures.is
    (subst (λ b. IsUnder (g.H.Shelf.texts c.args.shelf.now) c.args.machine.now b) (sym c.deref.ensures.value) under)

pub returns-in-Ok-clause-cause : goal.returns-in-Ok-clause-cause
returns-in-Ok-clause-cause g c =
    let under = subst (λ t. IsUnder t c.args.machine.now c.in-Ok.text.items) c.in_ok-spec.ensures.texts_stay c.in-Ok.ensures.under in
    check_causes (g.H.Shelf.texts c.args.shelf.now) c.args.name.now c.args.as_written c.in_ok-spec.spec c.in_ok-spec.ensures.is c.args.machine.now c.in-Ok.text.items under c.in-Ok.ensures.short
    c.check_answer.result (subst (λ b. IfErr c.check_answer.result (IsCheckFault c.in_ok-spec.spec b)) c.deref.ensures.value c.check_answer.ensures.fault)

pub returns-clause-cause : goal.returns-clause-cause
returns-clause-cause g c =
    let fault = subst (λ t. IsFetchFault t c.args.name.now c.args.machine.now Other c.in-Err.fault) c.in_ok-spec.ensures.texts_stay c.in-Err.ensures.long in
    fetch_cause (g.H.Shelf.texts c.args.shelf.now) c.args.name.now c.args.as_written c.args.machine.now IsCheckFault (c.in_ok-spec.spec, c.in_ok-spec.ensures.is) c.in-Err.fault fault
