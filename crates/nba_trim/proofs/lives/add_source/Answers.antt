use Rattle.std.proofs.Common.{◌<◌, ◌+◌, take, ◌++◌, ◌∷◌, [], false, length, get_or, set, ap, sym, ◌∙◌, subst, arith}
use Rattle.std.proofs.lemmas.List.{get_or_read}
use Rattle.word_core.specs.declared.automata.Edge.{Edge}
use Rattle.nba_trim.specs.Search.{AreStateLists, AddsSource}
use Rattle.nba_trim.proofs.Sources.{lists_push, source_push}
use Rattle.nba_trim.proofs.lives.add_source.Goals as goal

pub loop-edge-preserved : goal.loop-edge-preserved
loop-edge-preserved c =
    let none : Edge = record { cube = record { care = 0; want = 0 }; next = 0; marked = false } in
    let edges = c.args.edges.now in
    let old = c.args.before.now.items in
    let now = c.loop-edge.before.items in
    let i = c.loop-edge.edge-index in
    let known = c.loop-edge.invariant in
    let in_old : (get_or edges i none).next < length old = c.requires.ends i none c.loop-edge-test.true in
    let in_now : (get_or edges i none).next < length now = omega (arith, in_old, known.states.each) in
    let more = c.in_ok-push.ensures ∙ ap (λ l. l ++ c.args.q ∷ []) (get_or_read now (get_or edges i none).next c.index_mut-sources.result.now in_now c.index_mut-sources.ensures.value []) in
    record {
      states = subst (λ l. AreStateLists (length old) (set now (get_or edges i none).next l)) (sym more) (lists_push c.args.q edges i none old now (length old) c.requires.source in_old known.states);
      adds = subst (λ l. AddsSource c.args.q (take (i + 1) edges) old (set now (get_or edges i none).next l)) (sym more) (source_push c.args.q edges i none old now c.loop-edge-test.true in_now known.adds);
    }
