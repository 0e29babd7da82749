use Rattle.std.proofs.Common.{rules, [], ◌∷◌, ◌++◌, map, ◌∙◌, ap, subst}
use Rattle.word_core.specs.declared.machines.MachineFault.TheVariants.{Gap, NotFirst}
use Rattle.word_core.specs.Machine.{HasFault, IsDecided, IsLeastWithout}
use Rattle.machine_text.proofs.GroupLaws.{items, made, made_gap, grouped_whole, counted, counted_less}
use Rattle.machine_text.proofs.reading.machine_of.Goals as goal

pub returns-then-len-count-clause-fault : goal.returns-then-len-count-clause-fault
returns-then-len-count-clause-fault c =
    made_gap c.args.owner.0 c.args.owner.1 c.args.signals.0 c.args.signals.1 c.args.count c.widths-own.result.1 c.gap_before-gap.result c.args.entries.now (map items c.in_ok-states.states.items) c.widths-own.ensures.others c.requires.ranged c.in_ok-states.ensures.grouped (counted_less c.in_ok-states.states.items c.len.result c.args.count (search rules) c.if-len-count.true) (λ more. subst (λ ss. IsLeastWithout (IsDecided c.widths-own.result.1) (map items ss ++ [] ∷ more) c.gap_before-gap.result) c.deref.ensures.value (c.gap_before-gap.ensures more))

pub returns-in-Ok-clause-value : goal.returns-in-Ok-clause-value
returns-in-Ok-clause-value c =
    c.in-Ok.ensures.ok
    ∙ ap (made c.args.owner.0 c.args.owner.1 c.args.signals.0 c.args.signals.1) (grouped_whole c.args.count c.args.entries.now (map items c.in_ok-states.states.items) c.in_ok-states.ensures.grouped (counted c.in_ok-states.states.items c.len.result c.args.count (search rules) c.if-len-count.false))

pub returns-in-Err-Gap-clause-fault : goal.returns-in-Err-Gap-clause-fault
returns-in-Err-Gap-clause-fault c =
    subst (λ ss. HasFault (made c.args.owner.0 c.args.owner.1 c.args.signals.0 c.args.signals.1 ss) (Gap c.in-Err-Gap.state)) (grouped_whole c.args.count c.args.entries.now (map items c.in_ok-states.states.items) c.in_ok-states.ensures.grouped (counted c.in_ok-states.states.items c.len.result c.args.count (search rules) c.if-len-count.false)) (subst (HasFault (made c.args.owner.0 c.args.owner.1 c.args.signals.0 c.args.signals.1 (map items c.in_ok-states.states.items))) c.in-Err-Gap.field-0-is c.in-Err-Gap.ensures.fault)

pub returns-in-Err-NotFirst-clause-fault : goal.returns-in-Err-NotFirst-clause-fault
returns-in-Err-NotFirst-clause-fault c =
    subst (λ ss. HasFault (made c.args.owner.0 c.args.owner.1 c.args.signals.0 c.args.signals.1 ss) (NotFirst c.in-Err-NotFirst.state)) (grouped_whole c.args.count c.args.entries.now (map items c.in_ok-states.states.items) c.in_ok-states.ensures.grouped (counted c.in_ok-states.states.items c.len.result c.args.count (search rules) c.if-len-count.false)) (subst (HasFault (made c.args.owner.0 c.args.owner.1 c.args.signals.0 c.args.signals.1 (map items c.in_ok-states.states.items))) c.in-Err-NotFirst.field-0-is c.in-Err-NotFirst.ensures.fault)
