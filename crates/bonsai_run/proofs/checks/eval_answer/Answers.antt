use Rattle.std.proofs.Common.{◌<◌, ◌∙◌, sym, arith}
use Rattle.word_core.specs.Lasso.{size}
use Rattle.bonsai_run.proofs.Answering.{is_evaluated, is_lasso}
use Rattle.bonsai_run.proofs.checks.eval_answer.Goals as goal

pub returns-clause-answer : goal.returns-clause-answer
returns-clause-answer c = λ texts name lasso as_written of under.
    let w = c.in_ok-lasso.lasso in
    let positions : 0 < size w = omega (arith, c.in_ok-lasso.ensures.value.0.2) in
    is_evaluated texts name lasso as_written c.args.spec.now w c.in_ok-held.held c.in_ok-held_answer.field-0 of
    (is_lasso texts lasso c.args.spec.now w c.args.text.now c.signals_of-signals.result c.signals_of-signals.ensures c.in_ok-lasso.ensures.value under c.requires.short)
    c.in_ok-normal.ensures.few
    (sym (c.in_ok-held.ensures ∙ c.in_ok-normal.ensures.meaning w positions)) c.in_ok-held_answer.ensures.holds c.in_ok-held_answer.ensures.fails
