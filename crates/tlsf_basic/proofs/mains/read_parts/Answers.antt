use Rattle.std.proofs.Common.{ap, sym, ◌∙◌, length}
use Rattle.std.proofs.lemmas.Result.{err_from_is_err_and}
use Rattle.tlsf_basic.specs.Marks.{in_braces}
use Rattle.tlsf_basic.specs.Mains.{read_part, read_parts}
use Rattle.tlsf_basic.proofs.Turns.{turned, turn_failed, turns_ended, turns_ran_out, Fails-through, Gives-err}
use Rattle.tlsf_basic.proofs.mains.read_parts.Goals as goal
use Rattle.tlsf_basic.proofs.mains.read_parts.Goals.{else-loop-test, then-loop-test+then-not-in_braces}

pub returns-in_err-next : goal.returns-in_err-next
unfolding read_parts
returns-in_err-next c =
    let p = err_from_is_err_and c.from_residual.result c.from_residual.ensures.1 in
    let go = ap in_braces (sym c.front.ensures) ∙ sym c.if-not-in_braces.ensures in
    Gives-err _ _ _ _ _ p.1 p.2 (Fails-through c.in_err-next.field-0.0 _ _
    (λ h bad. turn_failed in_braces (read_part 256) (length c.args.tokens.now) c.loop.counter c.loop.invariant h c.loop-test.true go bad)
    c.in_err-next.ensures)

pub loop-preserved : goal.loop-preserved
loop-preserved c =
    let go = ap in_braces (sym c.front.ensures) ∙ sym c.if-not-in_braces.ensures in
    turned in_braces (read_part 256) (length c.args.tokens.now) c.loop.counter c.loop.invariant c.loop-test.true go c.in_ok-next.ensures

pub returns : goal.returns
unfolding read_parts
returns c =
    elim c.loop-test.branch [
      | else-loop-test w ↦ turns_ran_out in_braces (read_part 256) (length c.args.tokens.now) c.loop.counter c.loop.invariant w.loop-test.false
      | then-loop-test+then-not-in_braces w ↦ turns_ended in_braces (read_part 256) (length c.args.tokens.now) c.loop.counter c.loop.invariant (ap in_braces (sym w.front.ensures) ∙ sym w.if-not-in_braces.ensures)
    ]
