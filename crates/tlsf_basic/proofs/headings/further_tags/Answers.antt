use Rattle.std.proofs.Common.{ap, sym, ◌∙◌, length, drop}
use Rattle.std.proofs.lemmas.Result.{err_from_is_err_and}
use Rattle.tlsf_basic.specs.Marks.{mark, is_comma, is_name}
use Rattle.tlsf_basic.proofs.Turns.{passed, pass_failed, passes_ended, passes_ran_out, Fails-through, Gives-err}
use Rattle.tlsf_basic.proofs.headings.further_tags.Goals as goal
use Rattle.tlsf_basic.proofs.headings.further_tags.Goals.{else-loop-test, then-loop-test+then-not-is_comma}

pub returns-in_err-rest : goal.returns-in_err-rest
returns-in_err-rest c =
    let p = err_from_is_err_and c.from_residual.result c.from_residual.ensures.1 in
    let go = ap is_comma (sym c.front.ensures) ∙ sym c.if-not-is_comma.ensures in
    Gives-err _ _ _ _ _ p.1 p.2 (Fails-through c.in_err-rest.field-0.0 _ _
    (λ h bad. pass_failed is_comma (λ u. mark is_name (drop 1 u)) (length c.args.tokens.now) c.loop.counter c.loop.invariant h c.loop-test.true go (ap (mark is_name) (sym c.behind.ensures) ∙ bad))
    c.in_err-rest.ensures)

pub loop-preserved : goal.loop-preserved
loop-preserved c =
    let go = ap is_comma (sym c.front.ensures) ∙ sym c.if-not-is_comma.ensures in
    passed is_comma (λ u. mark is_name (drop 1 u)) (length c.args.tokens.now) c.loop.counter c.loop.invariant c.loop-test.true go (ap (mark is_name) (sym c.behind.ensures) ∙ c.in_ok-rest.ensures)

pub returns : goal.returns
returns c =
    elim c.loop-test.branch [
      | else-loop-test w ↦ passes_ran_out is_comma (λ u. mark is_name (drop 1 u)) (length c.args.tokens.now) c.loop.counter c.loop.invariant w.loop-test.false
      | then-loop-test+then-not-is_comma w ↦ passes_ended is_comma (λ u. mark is_name (drop 1 u)) (length c.args.tokens.now) c.loop.counter c.loop.invariant (ap is_comma (sym w.front.ensures) ∙ sym w.if-not-is_comma.ensures)
    ]
