use Rattle.std.proofs.Common.{◌≡◌, ◌-◌, ◌≤◌, true, List, sym, subst}
use Rattle.word_core.specs.declared.branches.Branch.{Branch}
use Rattle.letter_tree.specs.Leading.{Leads}
use Rattle.letter_tree.proofs.Leadings.{step_whole, step_unset, step_set, never_found}
use Rattle.letter_tree.proofs.occurrences.least.Goals as goal

pub returns-then-not-leads : goal.returns-then-not-leads
returns-then-not-leads c = never_found c.args.t.now.width c.width-2.result c.args.t.now.nodes c.branches-nodes.result.now c.args.label c.leads.result c.width-2.ensures.width c.branches-nodes.ensures.value c.if-not-leads.true c.leads.ensures.1

pub leads-requires-in-loop-signal-clause-whole : goal.leads-requires-in-loop-signal-clause-whole
leads-requires-in-loop-signal-clause-whole c = step_whole c.args.t.now.width c.args.t.now.nodes c.args.label c.loop-signal.signal c.loop-signal.found c.loop-signal-test.true c.loop-signal.invariant

pub loop-signal-preserved-then-not-leads-2 : goal.loop-signal-preserved-then-not-leads-2
loop-signal-preserved-then-not-leads-2 c =
    let narrow : c.args.t.now.width ≤ 64 = subst (λ w. w ≤ 64) c.width.ensures.width c.width.ensures.narrow in
    let test : Leads c.args.t.now.nodes (c.loop-signal.signal - 1) c.loop-signal.found c.args.label → c.leads-in-loop-signal.result ≡ true = λ k.
    c.leads-in-loop-signal.ensures.1 (subst (λ (l : List Branch). Leads l (c.loop-signal.signal - 1) c.loop-signal.found c.args.label) (sym c.branches-nodes.ensures.value) k) in
    step_set c.args.t.now.width c.args.t.now.nodes c.args.label c.loop-signal.signal c.loop-signal.found c.leads-in-loop-signal.result narrow c.loop-signal-test.true c.loop-signal.invariant c.if-not-leads-2.true test

pub loop-signal-preserved : goal.loop-signal-preserved
loop-signal-preserved c =
    let test : c.leads-in-loop-signal.result ≡ true → Leads c.args.t.now.nodes (c.loop-signal.signal - 1) c.loop-signal.found c.args.label = λ h.
    subst (λ (l : List Branch). Leads l (c.loop-signal.signal - 1) c.loop-signal.found c.args.label) c.branches-nodes.ensures.value (c.leads-in-loop-signal.ensures.0 h) in
    step_unset c.args.t.now.width c.args.t.now.nodes c.args.label c.loop-signal.signal c.loop-signal.found c.leads-in-loop-signal.result c.loop-signal-test.true c.loop-signal.invariant c.if-not-leads-2.false test
