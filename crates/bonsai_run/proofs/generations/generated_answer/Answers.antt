use Rattle.std.proofs.Common.{◌++◌, ◌∙◌, ap, false, subst}
use Rattle.tlsf_basic.specs.Specification.{IsSpec}
use Rattle.bonsai_run.specs.Answers.{verdict_comment}
use Rattle.bonsai_run.proofs.Answering.{is_generated}
use Rattle.dual_game.proofs.Avoiding.{passed_on}
use Rattle.bonsai_run.specs.Causes.{IsGenFault}
use Rattle.bonsai_run.specs.Errors.{of_text}
use Rattle.bonsai_run.proofs.Causing.{gen_fault, gen_limit}
use Rattle.bonsai_run.proofs.Generated.{arbiter_shows}
use Rattle.bonsai_run.proofs.generations.generated_answer.Goals as goal

pub returns-clause-answer : goal.returns-clause-answer
returns-clause-answer c = λ texts workers.
    let v = c.in_ok-verdict.ensures.verdict in
    let is = subst (λ t. IsSpec t false c.in_ok-spec.spec) (c.deref.ensures.value ∙ c.in_ok-text.ensures) c.in_ok-spec.ensures.spec in
    is_generated texts c.args.clients workers c.in_ok-spec.spec v.0 c.in_ok-verdict.verdict c.in_ok-commented.field-0.status c.in_ok-commented.field-0.text.items
    is (arbiter_shows c.args.clients c.requires.some c.requires.few false c.in_ok-spec.spec is) v.1 v.2 c.in_ok-commented.ensures.status
    (c.in_ok-commented.ensures.text ∙ ap (λ t. t ++ verdict_comment c.in_ok-verdict.verdict) c.in_ok-text.ensures)

pub returns-in_err-spec-clause-cause : goal.returns-in_err-spec-clause-cause
returns-in_err-spec-clause-cause c =
    passed_on c.from_residual-in_err-spec.result (of_text c.in_err-spec.field-0.0) (IsGenFault c.args.clients) c.from_residual-in_err-spec.ensures.1
    (gen_fault c.args.clients c.requires.some c.requires.few _ (c.deref.ensures.value ∙ c.in_ok-text.ensures) c.in_err-spec.field-0.0 c.in_err-spec.ensures.fault)

pub returns-in_err-verdict-clause-cause : goal.returns-in_err-verdict-clause-cause
returns-in_err-verdict-clause-cause c =
    passed_on c.from_residual-in_err-verdict.result c.in_err-verdict.field-0.0 (IsGenFault c.args.clients) c.from_residual-in_err-verdict.ensures.1
    (gen_limit c.args.clients c.in_ok-spec.spec (subst (λ t. IsSpec t false c.in_ok-spec.spec) (c.deref.ensures.value ∙ c.in_ok-text.ensures) c.in_ok-spec.ensures.spec) c.in_err-verdict.field-0.0 c.in_err-verdict.ensures.fault)
