use Rattle.std.proofs.Common.{ap, sym, ◌∙◌, length}
use Rattle.std.proofs.lemmas.Result.{err_from_is_err_and}
use Rattle.tlsf_basic.specs.Marks.{in_braces}
use Rattle.tlsf_basic.specs.Mains.{name_turn, read_names}
use Rattle.tlsf_basic.proofs.Turns.{passed, pass_failed, passes_ended, passes_ran_out, Fails-through, Gives-err}
use Rattle.tlsf_basic.proofs.mains.read_names.Goals as goal
use Rattle.tlsf_basic.proofs.mains.read_names.Goals.{else-loop-test, then-loop-test+then-not-in_braces}

pub returns-in_err-rest : goal.returns-in_err-rest
unfolding read_names
returns-in_err-rest c =
    let p = err_from_is_err_and c.from_residual.result c.from_residual.ensures.1 in
    let go = ap in_braces (sym c.front.ensures) ∙ sym c.if-not-in_braces.ensures in
    Gives-err _ _ _ _ _ p.1 p.2 (Fails-through c.in_err-rest.field-0.0 _ _
    (λ h bad. pass_failed in_braces name_turn (length c.args.tokens.now) c.loop.counter c.loop.invariant h c.loop-test.true go bad)
    c.in_err-rest.ensures)

pub loop-preserved : goal.loop-preserved
loop-preserved c =
    let go = ap in_braces (sym c.front.ensures) ∙ sym c.if-not-in_braces.ensures in
    passed in_braces name_turn (length c.args.tokens.now) c.loop.counter c.loop.invariant c.loop-test.true go c.in_ok-rest.ensures

pub returns : goal.returns
unfolding read_names
returns c =
    elim c.loop-test.branch [
      | else-loop-test w ↦ passes_ran_out in_braces name_turn (length c.args.tokens.now) c.loop.counter c.loop.invariant w.loop-test.false
      | then-loop-test+then-not-in_braces w ↦ passes_ended in_braces name_turn (length c.args.tokens.now) c.loop.counter c.loop.invariant (ap in_braces (sym w.front.ensures) ∙ sym w.if-not-in_braces.ensures)
    ]
