use Rattle.std.proofs.Common.{◌+◌, sym, ap, ◌∙◌, arith}
use Rattle.machine_text.specs.declared.errors.LassoError.TheVariants.{Line}
use Rattle.machine_text.specs.Lassos.{HasLassoFault}
use Rattle.machine_text.proofs.LassoLaws.{first_fault, stem_fault, cycle_fault, back_on_fault, lasso_read, lasso_made, back_on_value}
use Rattle.machine_text.proofs.LineSplits.{passed_on}
use Rattle.machine_text.proofs.lassos.read_lasso.Goals as goal

pub returns-in_err-read_stem_line-clause-fault : goal.returns-in_err-read_stem_line-clause-fault
returns-in_err-read_stem_line-clause-fault c =
    passed_on c.from_residual.result (Line c.in_err-read_stem_line.field-0.0.0) (HasLassoFault c.args.signals c.args.text.now) c.from_residual.ensures.1
    (first_fault c.args.signals c.of-lines.result.taken c.in_err-read_stem_line.field-0.0.0 c.args.text.now c.of-lines.result.rest.now c.of-lines.ensures.rest c.of-lines.ensures.taken c.in_err-read_stem_line.ensures.bad)

pub returns-in_err-read_stem_line-clause-back : goal.returns-in_err-read_stem_line-clause-back
returns-in_err-read_stem_line-clause-back c =
    back_on_fault c.args.signals c.args.text.now c.from_residual.result (Line c.in_err-read_stem_line.field-0.0.0) c.from_residual.ensures.1
    (first_fault c.args.signals c.of-lines.result.taken c.in_err-read_stem_line.field-0.0.0 c.args.text.now c.of-lines.result.rest.now c.of-lines.ensures.rest c.of-lines.ensures.taken c.in_err-read_stem_line.ensures.bad)

pub returns-in_err-stem-clause-fault : goal.returns-in_err-stem-clause-fault
returns-in_err-stem-clause-fault c =
    passed_on c.from_residual-in_err-stem.result c.in_err-stem.field-0.0 (HasLassoFault c.args.signals c.args.text.now) c.from_residual-in_err-stem.ensures.1
    (stem_fault c.args.signals c.read_stem_line.new.lines.taken c.args.text.now c.read_stem_line.new.lines.rest.now c.in_err-stem.field-0.0 (sym c.of-lines.ensures.rest ∙ c.in_ok-read_stem_line.ensures.line) (c.in_ok-read_stem_line.ensures.taken ∙ ap (λ k. k + 1) c.of-lines.ensures.taken) c.in_err-stem.ensures.fault)

pub returns-in_err-stem-clause-back : goal.returns-in_err-stem-clause-back
returns-in_err-stem-clause-back c =
    back_on_fault c.args.signals c.args.text.now c.from_residual-in_err-stem.result c.in_err-stem.field-0.0 c.from_residual-in_err-stem.ensures.1
    (stem_fault c.args.signals c.read_stem_line.new.lines.taken c.args.text.now c.read_stem_line.new.lines.rest.now c.in_err-stem.field-0.0 (sym c.of-lines.ensures.rest ∙ c.in_ok-read_stem_line.ensures.line) (c.in_ok-read_stem_line.ensures.taken ∙ ap (λ k. k + 1) c.of-lines.ensures.taken) c.in_err-stem.ensures.fault)

pub returns-in_err-cycle-clause-fault : goal.returns-in_err-cycle-clause-fault
returns-in_err-cycle-clause-fault c =
    passed_on c.from_residual-in_err-cycle.result c.in_err-cycle.field-0.0 (HasLassoFault c.args.signals c.args.text.now) c.from_residual-in_err-cycle.ensures.1
    (cycle_fault c.args.signals c.read_stem.new.lines.taken c.args.text.now c.read_stem_line.new.lines.rest.now c.read_stem.new.lines.rest.now c.in_ok-stem.stem.items c.in_err-cycle.field-0.0 (sym c.of-lines.ensures.rest ∙ c.in_ok-read_stem_line.ensures.line) c.in_ok-stem.ensures.ranged c.in_ok-stem.ensures.text (omega (arith, c.in_ok-stem.ensures.taken, c.in_ok-read_stem_line.ensures.taken, c.of-lines.ensures.taken)) c.in_err-cycle.ensures.fault)

pub returns-in_err-cycle-clause-back : goal.returns-in_err-cycle-clause-back
returns-in_err-cycle-clause-back c =
    back_on_fault c.args.signals c.args.text.now c.from_residual-in_err-cycle.result c.in_err-cycle.field-0.0 c.from_residual-in_err-cycle.ensures.1
    (cycle_fault c.args.signals c.read_stem.new.lines.taken c.args.text.now c.read_stem_line.new.lines.rest.now c.read_stem.new.lines.rest.now c.in_ok-stem.stem.items c.in_err-cycle.field-0.0 (sym c.of-lines.ensures.rest ∙ c.in_ok-read_stem_line.ensures.line) c.in_ok-stem.ensures.ranged c.in_ok-stem.ensures.text (omega (arith, c.in_ok-stem.ensures.taken, c.in_ok-read_stem_line.ensures.taken, c.of-lines.ensures.taken)) c.in_err-cycle.ensures.fault)

pub returns-clause-value : goal.returns-clause-value
returns-clause-value c =
    lasso_made c.args.signals c.args.text.now c.in-Some.lasso c.in_ok-stem.stem.items c.in_ok-cycle.cycle.items c.in-Some.ensures.value c.in_ok-stem.ensures.ranged c.in_ok-cycle.ensures.ranged c.in_ok-cycle.ensures.some
    (lasso_read c.args.signals c.args.text.now c.read_stem_line.new.lines.rest.now c.read_stem.new.lines.rest.now c.in_ok-stem.stem.items c.in_ok-cycle.cycle.items (sym c.of-lines.ensures.rest ∙ c.in_ok-read_stem_line.ensures.line) c.in_ok-stem.ensures.text c.in_ok-cycle.ensures.text)

pub returns-clause-back : goal.returns-clause-back
returns-clause-back c = λ w h e. (back_on_value c.args.signals c.args.text.now c.in-Some.lasso (returns-clause-value c) w h e, tt)
