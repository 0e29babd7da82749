-- The errors of lower steps as faults.
use Rattle.tlsf_basic.specs.declared.faults.TextError.{TextError}
use Rattle.tlsf_basic.specs.declared.faults.TextError.TheVariants as text
use Rattle.ltl_form.specs.declared.normals.FormError.{FormError}
use Rattle.ltl_form.specs.declared.normals.FormError.TheVariants as form
use Rattle.dual_game.specs.declared.errors.GameError.{GameError}
use Rattle.dual_game.specs.declared.errors.GameError.TheVariants as game
use Rattle.machine_text.specs.declared.errors.MachineError.{MachineError}
use Rattle.machine_text.specs.declared.errors.MachineError.TheVariants as machine
use Rattle.machine_text.specs.declared.errors.LassoError.{LassoError}
use Rattle.machine_text.specs.declared.errors.LassoError.TheVariants as lasso
use Rattle.bonsai_run.specs.declared.faults.Fault.{Fault}
use Rattle.bonsai_run.specs.declared.faults.Fault.TheVariants.{Text, Line, Gap, NotFirst, Formulas, Covers, States, Memory}

abbrev pub of_text : TextError → Fault
of_text (text.Fault what place) = Text what place
of_text text.Memory = Memory

abbrev pub of_form : FormError → Fault
of_form form.TooManyFormulas = Formulas
of_form form.Memory = Memory

abbrev pub of_game : GameError → Fault
of_game game.TooManyFormulas = Formulas
of_game game.TooWide = Covers
of_game game.TooManyStates = States
of_game game.Memory = Memory

abbrev pub of_machine : MachineError → Fault
of_machine (machine.Line line) = Line line
of_machine (machine.Gap state) = Gap state
of_machine (machine.NotFirst state) = NotFirst state
of_machine machine.Memory = Memory

abbrev pub of_lasso : LassoError → Fault
of_lasso (lasso.Line line) = Line line
of_lasso lasso.Memory = Memory
