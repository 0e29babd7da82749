use Rattle.std.proofs.Common.{◌≡◌, ◌+◌, ◌-◌, ◌<◌, sym, ap, ◌∙◌, subst, arith, ◌∷◌, [], length}
use Rattle.tlsf_basic.specs.Formulas.{nested, one_more, read_unary, read_all, read_formula, read_arrow}
use Rattle.tlsf_basic.specs.Reads.{Gives, behind_by, turns}
use Rattle.tlsf_basic.specs.Marks.{is_and, is_or}
use Rattle.std.proofs.lemmas.Result.{err_from_is_err_and}
use Rattle.tlsf_basic.proofs.Turns.{nested_unary, nested_formula, nested_arrow, nested_unary-none, nested_formula-none, nested_arrow-none, turned, turn_failed, turns_ended, turns_ran_out, one_more_ok, one_more_err, conjuncts_ok, conjuncts_err, disjuncts_ok, disjuncts_err, Fails-through, Gives-err}
use Rattle.tlsf_basic.proofs.formulas.+formula.Goals as goal
use Rattle.tlsf_basic.proofs.formulas.+formula.Goals.{read_conjuncts-else-loop-test, read_conjuncts-then-loop-test+then-not-is_and, read_disjuncts-else-loop-test, read_disjuncts-then-loop-test+then-not-is_or}

pub nested_unary-returns-then-left-eq0 : goal.nested_unary-returns-then-left-eq0
nested_unary-returns-then-left-eq0 t c = nested_unary-none c.args.left c.args.tokens.now c.if-left-eq0.true

pub nested_unary-returns : goal.nested_unary-returns
nested_unary-returns t c =
    let some : 0 < c.args.left = omega arith in
    subst (Gives behind_by c.read_unary.result)
    (ap (read_unary (nested (c.args.left - 1))) c.behind.ensures ∙ sym (nested_unary c.args.left c.args.tokens.now some))
    c.read_unary.ensures

pub nested_formula-returns-then-left-eq0 : goal.nested_formula-returns-then-left-eq0
nested_formula-returns-then-left-eq0 t c = nested_formula-none c.args.left c.args.tokens.now c.if-left-eq0.true

pub nested_formula-returns : goal.nested_formula-returns
nested_formula-returns t c =
    let some : 0 < c.args.left = omega arith in
    subst (Gives behind_by c.read_formula.result)
    (ap (read_formula (nested (c.args.left - 1))) c.behind.ensures ∙ sym (nested_formula c.args.left c.args.tokens.now some))
    c.read_formula.ensures

pub nested_arrow-returns-then-left-eq0 : goal.nested_arrow-returns-then-left-eq0
nested_arrow-returns-then-left-eq0 t c = nested_arrow-none c.args.left c.args.tokens.now c.if-left-eq0.true

pub nested_arrow-returns : goal.nested_arrow-returns
nested_arrow-returns t c =
    let some : 0 < c.args.left = omega arith in
    subst (Gives behind_by c.read_arrow.result)
    (ap (read_arrow (nested (c.args.left - 1))) c.behind.ensures ∙ sym (nested_arrow c.args.left c.args.tokens.now some))
    c.read_arrow.ensures

pub read_conjuncts-returns-in_err-operand : goal.read_conjuncts-returns-in_err-operand
read_conjuncts-returns-in_err-operand t c =
    let p = err_from_is_err_and c.from_residual-in_err-operand.result c.from_residual-in_err-operand.ensures.1 in
    let go = ap is_and (sym c.front.ensures) ∙ sym c.if-not-is_and.ensures in
    Gives-err _ _ _ _ _ p.1 p.2 (Fails-through c.in_err-operand.field-0.0 _ _
    (λ h bad. conjuncts_err _ _ _ h (turn_failed is_and _ (length c.args.tokens.now) c.loop.counter c.loop.invariant h c.loop-test.true go
    (one_more_err (read_unary (nested c.args.left)) c.loop.operands c.loop.rest.now c.behind.result.now h c.behind.ensures bad)))
    c.in_err-operand.ensures)

pub read_conjuncts-loop-preserved : goal.read_conjuncts-loop-preserved
read_conjuncts-loop-preserved t c =
    let go = ap is_and (sym c.front.ensures) ∙ sym c.if-not-is_and.ensures in
    let more = turned is_and _ (length c.args.tokens.now) c.loop.counter c.loop.invariant c.loop-test.true go
    (one_more_ok (read_unary (nested c.args.left)) c.loop.operands c.in_ok-operand.operand c.loop.rest.now c.behind.result.now c.in_ok-operand.after.now c.behind.ensures c.in_ok-operand.ensures) in
    subst (λ fs. turns is_and (one_more (read_unary (nested c.args.left))) (length c.args.tokens.now - (c.loop.counter + 1)) fs c.in_ok-operand.after.now
    ≡ turns is_and (one_more (read_unary (nested c.args.left))) (length c.args.tokens.now) (c.args.first ∷ []) c.args.tokens.now)
    (sym c.in_ok-push-2.ensures.ok) more

pub read_conjuncts-returns : goal.read_conjuncts-returns
read_conjuncts-returns t c =
    conjuncts_ok _ _ _ _ _ (elim c.loop-test.branch [
      | read_conjuncts-else-loop-test w ↦ turns_ran_out is_and _ (length c.args.tokens.now) c.loop.counter c.loop.invariant w.loop-test.false
      | read_conjuncts-then-loop-test+then-not-is_and w ↦ turns_ended is_and _ (length c.args.tokens.now) c.loop.counter c.loop.invariant (ap is_and (sym w.front.ensures) ∙ sym w.if-not-is_and.ensures)
    ])

pub read_disjuncts-returns-in_err-operand : goal.read_disjuncts-returns-in_err-operand
read_disjuncts-returns-in_err-operand t c =
    let p = err_from_is_err_and c.from_residual-in_err-operand.result c.from_residual-in_err-operand.ensures.1 in
    let go = ap is_or (sym c.front.ensures) ∙ sym c.if-not-is_or.ensures in
    Gives-err _ _ _ _ _ p.1 p.2 (Fails-through c.in_err-operand.field-0.0 _ _
    (λ h bad. disjuncts_err _ _ _ h (turn_failed is_or _ (length c.args.tokens.now) c.loop.counter c.loop.invariant h c.loop-test.true go
    (one_more_err (read_all (nested c.args.left)) c.loop.operands c.loop.rest.now c.behind.result.now h c.behind.ensures bad)))
    c.in_err-operand.ensures)

pub read_disjuncts-loop-preserved : goal.read_disjuncts-loop-preserved
read_disjuncts-loop-preserved t c =
    let go = ap is_or (sym c.front.ensures) ∙ sym c.if-not-is_or.ensures in
    let more = turned is_or _ (length c.args.tokens.now) c.loop.counter c.loop.invariant c.loop-test.true go
    (one_more_ok (read_all (nested c.args.left)) c.loop.operands c.in_ok-operand.operand c.loop.rest.now c.behind.result.now c.in_ok-operand.after.now c.behind.ensures c.in_ok-operand.ensures) in
    subst (λ fs. turns is_or (one_more (read_all (nested c.args.left))) (length c.args.tokens.now - (c.loop.counter + 1)) fs c.in_ok-operand.after.now
    ≡ turns is_or (one_more (read_all (nested c.args.left))) (length c.args.tokens.now) (c.args.first ∷ []) c.args.tokens.now)
    (sym c.in_ok-push-2.ensures.ok) more

pub read_disjuncts-returns : goal.read_disjuncts-returns
read_disjuncts-returns t c =
    disjuncts_ok _ _ _ _ _ (elim c.loop-test.branch [
      | read_disjuncts-else-loop-test w ↦ turns_ran_out is_or _ (length c.args.tokens.now) c.loop.counter c.loop.invariant w.loop-test.false
      | read_disjuncts-then-loop-test+then-not-is_or w ↦ turns_ended is_or _ (length c.args.tokens.now) c.loop.counter c.loop.invariant (ap is_or (sym w.front.ensures) ∙ sym w.if-not-is_or.ensures)
    ])
