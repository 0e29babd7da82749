use Rattle.std.proofs.Common.{◌≡◌, ◌+◌, ◌<◌, List, [], ◌++◌, Vec, Global, map, length, get_or, drop, subst, sym, ap, ◌∙◌, arith}
use Rattle.std.proofs.lemmas.List.{get_or-map, length-map}
use Rattle.word_core.specs.declared.machines.Line.{Line}
use Rattle.machine_text.specs.Lines.{joined}
use Rattle.machine_text.specs.Machines.{state_lines, states_lines}
use Rattle.machine_text.proofs.LineLaws.{state_step}
use Rattle.machine_text.proofs.printing.print_machine.Goals as goal

pub loop-state-preserved : goal.loop-state-preserved
loop-state-preserved c =
    let states = c.states-lines-items.result.now in
    let s = c.loop-state.state in
    let own = c.widths-own.result.0 in
    let others = c.widths-own.result.1 in
    let item = c.lines-item.result in
    let view = c.states-lines-items.ensures.value in
    let at : get_or (map (λ (v : Vec Line Global). v.items) states) s [] ≡ item.items = get_or-map (λ (v : Vec Line Global). v.items) states s item [] c.loop-state-test.true ∙ ap (λ (v : Vec Line Global). v.items) (sym c.lines-item.is) in
    let e : item.items ≡ get_or c.args.m.now.states s [] = sym at ∙ ap (λ (ls : List (List Line)). get_or ls s []) view in
    let n = length-map states (λ (v : Vec Line Global). v.items) in
    let l : s < length c.args.m.now.states = subst (λ (ls : List (List Line)). s < length ls) view (omega arith) in
    ap (λ t. t ++ joined (states_lines own others (s + 1) (drop (s + 1) c.args.m.now.states))) (c.in_ok-push_state.ensures ∙ ap (λ ls. c.loop-state.text.items ++ joined (state_lines own others s ls)) c.deref.ensures.value)
    ∙ state_step c.loop-state.text.items own others s c.args.m.now.states item.items l e
    ∙ c.loop-state.invariant
