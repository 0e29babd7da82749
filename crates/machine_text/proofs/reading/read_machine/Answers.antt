use Rattle.std.proofs.Common.{rules, IfOk, IfErr, ◌≡◌, ◌+◌, ◌++◌, ◌∷◌, codes, subst, arith}
use Rattle.machine_text.specs.declared.errors.MachineError.TheVariants.{Line}
use Rattle.machine_text.specs.Lines.{NextIsNone}
use Rattle.machine_text.specs.Machines.{names_text, count_text, Spells, HasMachineFault}
use Rattle.machine_text.specs.Reading.{HasMakeFault}
use Rattle.machine_text.proofs.BackLaws.{back_on_fault, value_if, fault_if, back_if}
use Rattle.machine_text.proofs.LineSplits.{passed_on}
use Rattle.machine_text.proofs.MachineLaws.{owner_fault, inputs_fault, outputs_fault, count_fault, entries_fault_at, entries_spell_at, entries_at, own_at, others_at, three_lines, of_entries}
use Rattle.machine_text.proofs.reading.read_machine.Goals as goal

pub returns-in_err-player-clause-fault : goal.returns-in_err-player-clause-fault
returns-in_err-player-clause-fault c =
    passed_on c.from_residual.result (Line c.in_err-player.field-0.0.0) (HasMachineFault c.args.names.now c.args.text.now) c.from_residual.ensures.1
    (subst (λ t. HasMachineFault c.args.names.now t (Line c.in_err-player.field-0.0.0)) c.of-lines.ensures.rest (owner_fault c.args.names.now c.of-lines.result.rest.now c.of-lines.result.taken c.in_err-player.field-0.0.0 c.of-lines.ensures.taken c.in_err-player.ensures.bad))

pub returns-in_err-player-clause-back : goal.returns-in_err-player-clause-back
returns-in_err-player-clause-back c =
    back_on_fault c.args.names.now c.args.text.now c.from_residual.result (Line c.in_err-player.field-0.0.0) c.from_residual.ensures.1
    (subst (λ t. HasMachineFault c.args.names.now t (Line c.in_err-player.field-0.0.0)) c.of-lines.ensures.rest (owner_fault c.args.names.now c.of-lines.result.rest.now c.of-lines.result.taken c.in_err-player.field-0.0.0 c.of-lines.ensures.taken c.in_err-player.ensures.bad))

pub returns-in_err-read_names-clause-fault : goal.returns-in_err-read_names-clause-fault
returns-in_err-read_names-clause-fault c =
    passed_on c.from_residual-in_err-read_names.result (Line c.in_err-read_names.field-0.0.0) (HasMachineFault c.args.names.now c.args.text.now) c.from_residual-in_err-read_names.ensures.1
    (subst (λ t. HasMachineFault c.args.names.now t (Line c.in_err-read_names.field-0.0.0)) c.of-lines.ensures.rest (inputs_fault c.args.names.now c.in_ok-player.player c.in_ok-player.kind c.of-lines.result.rest.now c.read_owner.new.lines.rest.now c.of-lines.result.taken c.read_owner.new.lines.taken c.in_err-read_names.field-0.0.0 c.of-lines.ensures.taken c.in_ok-player.ensures.led (subst (λ ns. (c.in_err-read_names.field-0.0.0 ≡ c.read_owner.new.lines.taken + 1) × NextIsNone (λ line. line ≡ names_text (codes "inputs") ns) c.read_owner.new.lines.rest.now) c.deref.ensures.value c.in_err-read_names.ensures.bad)))

pub returns-in_err-read_names-clause-back : goal.returns-in_err-read_names-clause-back
returns-in_err-read_names-clause-back c =
    back_on_fault c.args.names.now c.args.text.now c.from_residual-in_err-read_names.result (Line c.in_err-read_names.field-0.0.0) c.from_residual-in_err-read_names.ensures.1
    (subst (λ t. HasMachineFault c.args.names.now t (Line c.in_err-read_names.field-0.0.0)) c.of-lines.ensures.rest (inputs_fault c.args.names.now c.in_ok-player.player c.in_ok-player.kind c.of-lines.result.rest.now c.read_owner.new.lines.rest.now c.of-lines.result.taken c.read_owner.new.lines.taken c.in_err-read_names.field-0.0.0 c.of-lines.ensures.taken c.in_ok-player.ensures.led (subst (λ ns. (c.in_err-read_names.field-0.0.0 ≡ c.read_owner.new.lines.taken + 1) × NextIsNone (λ line. line ≡ names_text (codes "inputs") ns) c.read_owner.new.lines.rest.now) c.deref.ensures.value c.in_err-read_names.ensures.bad)))

pub returns-in_err-read_names-2-clause-fault : goal.returns-in_err-read_names-2-clause-fault
returns-in_err-read_names-2-clause-fault c =
    passed_on c.from_residual-in_err-read_names-2.result (Line c.in_err-read_names-2.field-0.0.0) (HasMachineFault c.args.names.now c.args.text.now) c.from_residual-in_err-read_names-2.ensures.1
    (subst (λ t. HasMachineFault c.args.names.now t (Line c.in_err-read_names-2.field-0.0.0)) c.of-lines.ensures.rest (outputs_fault c.args.names.now c.in_ok-player.player c.in_ok-player.kind c.of-lines.result.rest.now c.read_owner.new.lines.rest.now c.read_names.new.lines.rest.now c.of-lines.result.taken c.read_owner.new.lines.taken c.read_names.new.lines.taken c.in_err-read_names-2.field-0.0.0 c.of-lines.ensures.taken c.in_ok-player.ensures.led (subst (λ ns. c.read_owner.new.lines.rest.now ≡ names_text (codes "inputs") ns ++ 10 ∷ c.read_names.new.lines.rest.now) c.deref.ensures.value c.in_ok-read_names.ensures.line) c.in_ok-read_names.ensures.taken (subst (λ ns. (c.in_err-read_names-2.field-0.0.0 ≡ c.read_names.new.lines.taken + 1) × NextIsNone (λ line. line ≡ names_text (codes "outputs") ns) c.read_names.new.lines.rest.now) c.deref-2.ensures.value c.in_err-read_names-2.ensures.bad)))

pub returns-in_err-read_names-2-clause-back : goal.returns-in_err-read_names-2-clause-back
returns-in_err-read_names-2-clause-back c =
    back_on_fault c.args.names.now c.args.text.now c.from_residual-in_err-read_names-2.result (Line c.in_err-read_names-2.field-0.0.0) c.from_residual-in_err-read_names-2.ensures.1
    (subst (λ t. HasMachineFault c.args.names.now t (Line c.in_err-read_names-2.field-0.0.0)) c.of-lines.ensures.rest (outputs_fault c.args.names.now c.in_ok-player.player c.in_ok-player.kind c.of-lines.result.rest.now c.read_owner.new.lines.rest.now c.read_names.new.lines.rest.now c.of-lines.result.taken c.read_owner.new.lines.taken c.read_names.new.lines.taken c.in_err-read_names-2.field-0.0.0 c.of-lines.ensures.taken c.in_ok-player.ensures.led (subst (λ ns. c.read_owner.new.lines.rest.now ≡ names_text (codes "inputs") ns ++ 10 ∷ c.read_names.new.lines.rest.now) c.deref.ensures.value c.in_ok-read_names.ensures.line) c.in_ok-read_names.ensures.taken (subst (λ ns. (c.in_err-read_names-2.field-0.0.0 ≡ c.read_names.new.lines.taken + 1) × NextIsNone (λ line. line ≡ names_text (codes "outputs") ns) c.read_names.new.lines.rest.now) c.deref-2.ensures.value c.in_err-read_names-2.ensures.bad)))

pub returns-in_err-count-clause-fault : goal.returns-in_err-count-clause-fault
returns-in_err-count-clause-fault c =
    passed_on c.from_residual-in_err-count.result (Line c.in_err-count.field-0.0.0) (HasMachineFault c.args.names.now c.args.text.now) c.from_residual-in_err-count.ensures.1
    (subst (λ t. HasMachineFault c.args.names.now t (Line c.in_err-count.field-0.0.0)) c.of-lines.ensures.rest (count_fault c.args.names.now c.in_ok-player.player c.in_ok-player.kind c.of-lines.result.rest.now c.read_owner.new.lines.rest.now c.read_names.new.lines.rest.now c.read_names-2.new.lines.rest.now c.of-lines.result.taken c.read_owner.new.lines.taken c.read_names.new.lines.taken c.read_names-2.new.lines.taken c.in_err-count.field-0.0.0 c.of-lines.ensures.taken c.in_ok-player.ensures.led (subst (λ ns. c.read_owner.new.lines.rest.now ≡ names_text (codes "inputs") ns ++ 10 ∷ c.read_names.new.lines.rest.now) c.deref.ensures.value c.in_ok-read_names.ensures.line) c.in_ok-read_names.ensures.taken (subst (λ ns. c.read_names.new.lines.rest.now ≡ names_text (codes "outputs") ns ++ 10 ∷ c.read_names-2.new.lines.rest.now) c.deref-2.ensures.value c.in_ok-read_names-2.ensures.line) c.in_ok-read_names-2.ensures.taken c.in_err-count.ensures.bad))

pub returns-in_err-count-clause-back : goal.returns-in_err-count-clause-back
returns-in_err-count-clause-back c =
    back_on_fault c.args.names.now c.args.text.now c.from_residual-in_err-count.result (Line c.in_err-count.field-0.0.0) c.from_residual-in_err-count.ensures.1
    (subst (λ t. HasMachineFault c.args.names.now t (Line c.in_err-count.field-0.0.0)) c.of-lines.ensures.rest (count_fault c.args.names.now c.in_ok-player.player c.in_ok-player.kind c.of-lines.result.rest.now c.read_owner.new.lines.rest.now c.read_names.new.lines.rest.now c.read_names-2.new.lines.rest.now c.of-lines.result.taken c.read_owner.new.lines.taken c.read_names.new.lines.taken c.read_names-2.new.lines.taken c.in_err-count.field-0.0.0 c.of-lines.ensures.taken c.in_ok-player.ensures.led (subst (λ ns. c.read_owner.new.lines.rest.now ≡ names_text (codes "inputs") ns ++ 10 ∷ c.read_names.new.lines.rest.now) c.deref.ensures.value c.in_ok-read_names.ensures.line) c.in_ok-read_names.ensures.taken (subst (λ ns. c.read_names.new.lines.rest.now ≡ names_text (codes "outputs") ns ++ 10 ∷ c.read_names-2.new.lines.rest.now) c.deref-2.ensures.value c.in_ok-read_names-2.ensures.line) c.in_ok-read_names-2.ensures.taken c.in_err-count.ensures.bad))

pub returns-in_err-entries-clause-fault : goal.returns-in_err-entries-clause-fault
returns-in_err-entries-clause-fault c =
    passed_on c.from_residual-in_err-entries.result c.in_err-entries.field-0.0 (HasMachineFault c.args.names.now c.args.text.now) c.from_residual-in_err-entries.ensures.1
    (subst (λ t. HasMachineFault c.args.names.now t (c.in_err-entries.field-0.0)) c.of-lines.ensures.rest (entries_fault_at c.args.names.now c.in_ok-player.player c.in_ok-player.kind c.widths-own.result.0 c.widths-own.result.1 c.of-lines.result.rest.now c.read_owner.new.lines.rest.now c.read_count.new.lines.rest.now c.of-lines.result.taken c.read_owner.new.lines.taken c.read_count.new.lines.taken c.in_ok-count.count c.in_err-entries.field-0.0 (own_at c.args.names.now c.in_ok-player.player c.widths-own.result.0 c.len-inputs.result c.len-outputs.result c.widths-own.ensures.own (search rules) (search rules)) (others_at c.args.names.now c.in_ok-player.player c.widths-own.result.1 c.len-inputs.result c.len-outputs.result c.widths-own.ensures.others (search rules) (search rules)) c.of-lines.ensures.taken c.in_ok-player.ensures.led (three_lines (names_text (codes "inputs") c.args.names.now.inputs.items) (names_text (codes "outputs") c.args.names.now.outputs.items) (count_text c.in_ok-count.count) c.read_owner.new.lines.rest.now c.read_names.new.lines.rest.now c.read_names-2.new.lines.rest.now c.read_count.new.lines.rest.now (subst (λ ns. c.read_owner.new.lines.rest.now ≡ names_text (codes "inputs") ns ++ 10 ∷ c.read_names.new.lines.rest.now) c.deref.ensures.value c.in_ok-read_names.ensures.line) (subst (λ ns. c.read_names.new.lines.rest.now ≡ names_text (codes "outputs") ns ++ 10 ∷ c.read_names-2.new.lines.rest.now) c.deref-2.ensures.value c.in_ok-read_names-2.ensures.line) c.in_ok-count.ensures.line) (omega (arith, c.in_ok-read_names.ensures.taken, c.in_ok-read_names-2.ensures.taken, c.in_ok-count.ensures.taken)) c.in_ok-count.ensures.some c.in_ok-count.ensures.fits c.in_err-entries.ensures.fault))

pub returns-in_err-entries-clause-back : goal.returns-in_err-entries-clause-back
returns-in_err-entries-clause-back c =
    back_on_fault c.args.names.now c.args.text.now c.from_residual-in_err-entries.result c.in_err-entries.field-0.0 c.from_residual-in_err-entries.ensures.1
    (subst (λ t. HasMachineFault c.args.names.now t (c.in_err-entries.field-0.0)) c.of-lines.ensures.rest (entries_fault_at c.args.names.now c.in_ok-player.player c.in_ok-player.kind c.widths-own.result.0 c.widths-own.result.1 c.of-lines.result.rest.now c.read_owner.new.lines.rest.now c.read_count.new.lines.rest.now c.of-lines.result.taken c.read_owner.new.lines.taken c.read_count.new.lines.taken c.in_ok-count.count c.in_err-entries.field-0.0 (own_at c.args.names.now c.in_ok-player.player c.widths-own.result.0 c.len-inputs.result c.len-outputs.result c.widths-own.ensures.own (search rules) (search rules)) (others_at c.args.names.now c.in_ok-player.player c.widths-own.result.1 c.len-inputs.result c.len-outputs.result c.widths-own.ensures.others (search rules) (search rules)) c.of-lines.ensures.taken c.in_ok-player.ensures.led (three_lines (names_text (codes "inputs") c.args.names.now.inputs.items) (names_text (codes "outputs") c.args.names.now.outputs.items) (count_text c.in_ok-count.count) c.read_owner.new.lines.rest.now c.read_names.new.lines.rest.now c.read_names-2.new.lines.rest.now c.read_count.new.lines.rest.now (subst (λ ns. c.read_owner.new.lines.rest.now ≡ names_text (codes "inputs") ns ++ 10 ∷ c.read_names.new.lines.rest.now) c.deref.ensures.value c.in_ok-read_names.ensures.line) (subst (λ ns. c.read_names.new.lines.rest.now ≡ names_text (codes "outputs") ns ++ 10 ∷ c.read_names-2.new.lines.rest.now) c.deref-2.ensures.value c.in_ok-read_names-2.ensures.line) c.in_ok-count.ensures.line) (omega (arith, c.in_ok-read_names.ensures.taken, c.in_ok-read_names-2.ensures.taken, c.in_ok-count.ensures.taken)) c.in_ok-count.ensures.some c.in_ok-count.ensures.fits c.in_err-entries.ensures.fault))

pub returns-clause-value : goal.returns-clause-value
returns-clause-value c =
    value_if c.args.names.now c.args.text.now c.machine_of.result (of_entries c.args.names.now c.in_ok-player.player c.in_ok-player.kind c.in_ok-count.count c.in_ok-entries.entries.items)
    (subst (λ m. IfOk c.machine_of.result (λ v. v ≡ m)) (entries_at c.args.names.now c.in_ok-player.player c.in_ok-player.kind c.in_ok-count.count c.len-inputs.result c.len-outputs.result c.in_ok-entries.entries.items c.deref-3.result.now (search rules) (search rules) c.deref-3.ensures.value) c.machine_of.ensures.value)
    (subst (λ t. Spells c.args.names.now t (of_entries c.args.names.now c.in_ok-player.player c.in_ok-player.kind c.in_ok-count.count c.in_ok-entries.entries.items)) c.of-lines.ensures.rest (entries_spell_at c.args.names.now c.in_ok-player.player c.in_ok-player.kind c.widths-own.result.0 c.widths-own.result.1 c.of-lines.result.rest.now c.read_owner.new.lines.rest.now c.read_count.new.lines.rest.now c.of-lines.result.taken c.read_owner.new.lines.taken c.read_count.new.lines.taken c.read_entries.new.lines.taken c.in_ok-count.count c.in_ok-entries.entries.items (own_at c.args.names.now c.in_ok-player.player c.widths-own.result.0 c.len-inputs.result c.len-outputs.result c.widths-own.ensures.own (search rules) (search rules)) (others_at c.args.names.now c.in_ok-player.player c.widths-own.result.1 c.len-inputs.result c.len-outputs.result c.widths-own.ensures.others (search rules) (search rules)) c.in_ok-player.ensures.led (three_lines (names_text (codes "inputs") c.args.names.now.inputs.items) (names_text (codes "outputs") c.args.names.now.outputs.items) (count_text c.in_ok-count.count) c.read_owner.new.lines.rest.now c.read_names.new.lines.rest.now c.read_names-2.new.lines.rest.now c.read_count.new.lines.rest.now (subst (λ ns. c.read_owner.new.lines.rest.now ≡ names_text (codes "inputs") ns ++ 10 ∷ c.read_names.new.lines.rest.now) c.deref.ensures.value c.in_ok-read_names.ensures.line) (subst (λ ns. c.read_names.new.lines.rest.now ≡ names_text (codes "outputs") ns ++ 10 ∷ c.read_names-2.new.lines.rest.now) c.deref-2.ensures.value c.in_ok-read_names-2.ensures.line) c.in_ok-count.ensures.line) c.in_ok-count.ensures.some c.in_ok-count.ensures.fits c.in_ok-entries.ensures.read))

pub returns-clause-fault : goal.returns-clause-fault
returns-clause-fault c =
    fault_if c.args.names.now c.args.text.now c.machine_of.result (of_entries c.args.names.now c.in_ok-player.player c.in_ok-player.kind c.in_ok-count.count c.in_ok-entries.entries.items)
    (subst (λ m. IfErr c.machine_of.result (HasMakeFault m)) (entries_at c.args.names.now c.in_ok-player.player c.in_ok-player.kind c.in_ok-count.count c.len-inputs.result c.len-outputs.result c.in_ok-entries.entries.items c.deref-3.result.now (search rules) (search rules) c.deref-3.ensures.value) c.machine_of.ensures.fault)
    (subst (λ t. Spells c.args.names.now t (of_entries c.args.names.now c.in_ok-player.player c.in_ok-player.kind c.in_ok-count.count c.in_ok-entries.entries.items)) c.of-lines.ensures.rest (entries_spell_at c.args.names.now c.in_ok-player.player c.in_ok-player.kind c.widths-own.result.0 c.widths-own.result.1 c.of-lines.result.rest.now c.read_owner.new.lines.rest.now c.read_count.new.lines.rest.now c.of-lines.result.taken c.read_owner.new.lines.taken c.read_count.new.lines.taken c.read_entries.new.lines.taken c.in_ok-count.count c.in_ok-entries.entries.items (own_at c.args.names.now c.in_ok-player.player c.widths-own.result.0 c.len-inputs.result c.len-outputs.result c.widths-own.ensures.own (search rules) (search rules)) (others_at c.args.names.now c.in_ok-player.player c.widths-own.result.1 c.len-inputs.result c.len-outputs.result c.widths-own.ensures.others (search rules) (search rules)) c.in_ok-player.ensures.led (three_lines (names_text (codes "inputs") c.args.names.now.inputs.items) (names_text (codes "outputs") c.args.names.now.outputs.items) (count_text c.in_ok-count.count) c.read_owner.new.lines.rest.now c.read_names.new.lines.rest.now c.read_names-2.new.lines.rest.now c.read_count.new.lines.rest.now (subst (λ ns. c.read_owner.new.lines.rest.now ≡ names_text (codes "inputs") ns ++ 10 ∷ c.read_names.new.lines.rest.now) c.deref.ensures.value c.in_ok-read_names.ensures.line) (subst (λ ns. c.read_names.new.lines.rest.now ≡ names_text (codes "outputs") ns ++ 10 ∷ c.read_names-2.new.lines.rest.now) c.deref-2.ensures.value c.in_ok-read_names-2.ensures.line) c.in_ok-count.ensures.line) c.in_ok-count.ensures.some c.in_ok-count.ensures.fits c.in_ok-entries.ensures.read))

pub returns-clause-back : goal.returns-clause-back
returns-clause-back c =
    back_if c.args.names.now c.args.text.now c.machine_of.result (of_entries c.args.names.now c.in_ok-player.player c.in_ok-player.kind c.in_ok-count.count c.in_ok-entries.entries.items)
    (subst (λ m. IfOk c.machine_of.result (λ v. v ≡ m)) (entries_at c.args.names.now c.in_ok-player.player c.in_ok-player.kind c.in_ok-count.count c.len-inputs.result c.len-outputs.result c.in_ok-entries.entries.items c.deref-3.result.now (search rules) (search rules) c.deref-3.ensures.value) c.machine_of.ensures.value)
    (subst (λ m. IfErr c.machine_of.result (HasMakeFault m)) (entries_at c.args.names.now c.in_ok-player.player c.in_ok-player.kind c.in_ok-count.count c.len-inputs.result c.len-outputs.result c.in_ok-entries.entries.items c.deref-3.result.now (search rules) (search rules) c.deref-3.ensures.value) c.machine_of.ensures.fault)
    (subst (λ t. Spells c.args.names.now t (of_entries c.args.names.now c.in_ok-player.player c.in_ok-player.kind c.in_ok-count.count c.in_ok-entries.entries.items)) c.of-lines.ensures.rest (entries_spell_at c.args.names.now c.in_ok-player.player c.in_ok-player.kind c.widths-own.result.0 c.widths-own.result.1 c.of-lines.result.rest.now c.read_owner.new.lines.rest.now c.read_count.new.lines.rest.now c.of-lines.result.taken c.read_owner.new.lines.taken c.read_count.new.lines.taken c.read_entries.new.lines.taken c.in_ok-count.count c.in_ok-entries.entries.items (own_at c.args.names.now c.in_ok-player.player c.widths-own.result.0 c.len-inputs.result c.len-outputs.result c.widths-own.ensures.own (search rules) (search rules)) (others_at c.args.names.now c.in_ok-player.player c.widths-own.result.1 c.len-inputs.result c.len-outputs.result c.widths-own.ensures.others (search rules) (search rules)) c.in_ok-player.ensures.led (three_lines (names_text (codes "inputs") c.args.names.now.inputs.items) (names_text (codes "outputs") c.args.names.now.outputs.items) (count_text c.in_ok-count.count) c.read_owner.new.lines.rest.now c.read_names.new.lines.rest.now c.read_names-2.new.lines.rest.now c.read_count.new.lines.rest.now (subst (λ ns. c.read_owner.new.lines.rest.now ≡ names_text (codes "inputs") ns ++ 10 ∷ c.read_names.new.lines.rest.now) c.deref.ensures.value c.in_ok-read_names.ensures.line) (subst (λ ns. c.read_names.new.lines.rest.now ≡ names_text (codes "outputs") ns ++ 10 ∷ c.read_names-2.new.lines.rest.now) c.deref-2.ensures.value c.in_ok-read_names-2.ensures.line) c.in_ok-count.ensures.line) c.in_ok-count.ensures.some c.in_ok-count.ensures.fits c.in_ok-entries.ensures.read))
