use Rattle.std.proofs.Common.{◌≡◌, ◌<◌, ◌+◌, length, get_or, sym, subst, ap, ◌∙◌, take, false}
use Rattle.std.proofs.lemmas.List.{get_or_default}
use Rattle.word_core.specs.declared.automata.Edge.{Edge}
use Rattle.word_core.specs.Automaton.{edges_at}
use Rattle.nba_quotient.specs.Ways.{AreWaysOf}
use Rattle.nba_quotient.proofs.Covered.{ways_push}
use Rattle.nba_quotient.proofs.ways.all_ways.Goals as goal

pub loop-edge-preserved : goal.loop-edge-preserved
loop-edge-preserved c =
    let edges = edges_at c.args.a.now c.args.state in
    let i = c.loop-edge.edge-index in
    let none : Edge = record { cube = record { care = 0; want = 0 }; next = 0; marked = false } in
    let same : c.edges-edges.result.now ≡ edges = c.edges-edges.ensures.value in
    let within : i < length edges = subst (λ es. i < length es) same c.loop-edge-test.true in
    let here : get_or c.edges-edges.result.now i none ≡ get_or edges i none = ap (λ es. get_or es i none) same in
    let is : get_or edges i (get_or c.edges-edges.result.now i none) ≡ get_or c.edges-edges.result.now i none =
    get_or_default edges i (get_or c.edges-edges.result.now i none) none within ∙ sym here in
    subst (AreWaysOf c.args.of.now (take (i + 1) edges)) (sym c.in_ok-push.ensures.items)
    (ways_push c.args.of.now edges c.loop-edge.ways.items i (get_or c.edges-edges.result.now i none) c.way_of.result within is c.loop-edge.invariant c.way_of.ensures)
