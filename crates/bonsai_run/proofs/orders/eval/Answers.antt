use Rattle.std.proofs.Common.{subst, sym}
use Rattle.std.specs.Prelude.{IfErr}
use Rattle.bonsai_run.specs.declared.faults.Source.TheVariants.{Other}
use Rattle.bonsai_run.specs.Causes.{IsEvalFault, IsFetchFault}
use Rattle.bonsai_run.specs.Texts.{IsUnder}
use Rattle.bonsai_run.proofs.Causing.{eval_causes, fetch_cause}
use Rattle.bonsai_run.proofs.orders.eval.Goals as goal

pub returns-in-Ok-clause-answer : goal.returns-in-Ok-clause-answer
returns-in-Ok-clause-answer g c =
    let under = subst (λ t. IsUnder t c.args.lasso.now c.in-Ok.text.items) c.in_ok-spec.ensures.texts_stay c.in-Ok.ensures.under in
    c.eval_answer.ensures.answer (g.H.Shelf.texts c.args.shelf.now) c.args.name.now c.args.lasso.now c.args.as_written c.in_ok-spec.ensures.is
    (subst (λ b. IsUnder (g.H.Shelf.texts c.args.shelf.now) c.args.lasso.now b) (sym c.deref.ensures.value) under)

pub returns-in-Ok-clause-cause : goal.returns-in-Ok-clause-cause
returns-in-Ok-clause-cause g c =
    let under = subst (λ t. IsUnder t c.args.lasso.now c.in-Ok.text.items) c.in_ok-spec.ensures.texts_stay c.in-Ok.ensures.under in
    eval_causes (g.H.Shelf.texts c.args.shelf.now) c.args.name.now c.args.as_written c.in_ok-spec.spec c.in_ok-spec.ensures.is c.args.lasso.now c.in-Ok.text.items under c.in-Ok.ensures.short
    c.eval_answer.result (subst (λ b. IfErr c.eval_answer.result (IsEvalFault c.in_ok-spec.spec b)) c.deref.ensures.value c.eval_answer.ensures.fault)

pub returns-clause-cause : goal.returns-clause-cause
returns-clause-cause g c =
    let fault = subst (λ t. IsFetchFault t c.args.name.now c.args.lasso.now Other c.in-Err.fault) c.in_ok-spec.ensures.texts_stay c.in-Err.ensures.long in
    fetch_cause (g.H.Shelf.texts c.args.shelf.now) c.args.name.now c.args.as_written c.args.lasso.now IsEvalFault (c.in_ok-spec.spec, c.in_ok-spec.ensures.is) c.in-Err.fault fault
