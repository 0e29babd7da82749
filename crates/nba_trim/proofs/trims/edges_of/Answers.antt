use Rattle.std.proofs.Common.{◌<◌, ◌+◌, ◌++◌, ◌∙◌, [], false, ap, sym, subst, All, length, take, get_or}
use Rattle.std.specs.List.{cons_option}
use Rattle.std.proofs.lemmas.List.Elements.{All-append}
use Rattle.word_core.specs.declared.automata.Edge.{Edge}
use Rattle.word_core.specs.Automaton.{IsEdge}
use Rattle.nba_trim.specs.Trimmed.{edge_to, kept_edge, kept_edges}
use Rattle.nba_trim.proofs.Trimmed.{edges_more, edge_fits}
use Rattle.nba_trim.proofs.trims.edges_of.Goals as goal

pub loop-edge-preserved : goal.loop-edge-preserved
loop-edge-preserved c =
    let none : Edge = record { cube = record { care = 0; want = 0 }; next = 0; marked = false } in
    let a = c.args.a.now in
    let kept = c.args.numbers.now.kept in
    let all = c.edges-edge-items.result.now in
    let i = c.loop-edge.edge-index in
    let old = c.loop-edge.edges.items in
    let e = get_or all i none in
    let within : i < length all = c.loop-edge-test.true in
    let more = c.in_ok-push_some.ensures ∙ ap (λ o. old ++ cons_option o []) c.moved.ensures in
    record {
      value = more ∙ ap (λ o. old ++ cons_option (edge_to e o) []) c.of.ensures.value ∙ ap (λ l. l ++ cons_option (kept_edge kept e) []) c.loop-edge.invariant.value
          ∙ ap (λ l. kept_edges kept (take i l) ++ cons_option (kept_edge kept e) []) (sym c.edges-edge-items.ensures.value) ∙ sym (edges_more kept all i none within)
          ∙ ap (λ l. kept_edges kept (take (i + 1) l)) c.edges-edge-items.ensures.value;
      edges = subst (All (IsEdge a.signals (length kept))) (sym more)
          (All-append (IsEdge a.signals (length kept)) old (cons_option (edge_to e c.of.result) []) c.loop-edge.invariant.edges
          (edge_fits a.signals (length a.states) (length kept) e c.of.result (c.edges-edge-items.ensures.ranged i none within) c.of.ensures.within));
    }
