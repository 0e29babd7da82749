use Rattle.std.proofs.Common.{◌<◌, ◌≤◌, arith, ap, subst, sym, length, map, All, ◌∙◌}
use Rattle.std.proofs.lemmas.List.{length-map}
use Rattle.indexmap.specs.IndexSet.{index_set_len, insert_key}
use Rattle.word_core.specs.Automaton.{IsEdge}
use Rattle.word_core.specs.contracts.automata.EdgePartialEq.TheImpl.{eq-value}
use Rattle.cover_sets.specs.Bits.{sets_of}
use Rattle.cover_sets.specs.Union.{covers_of}
use Rattle.tableau_nba.specs.Walks.{edge_in, same_spot, spot_of, target}
use Rattle.tableau_nba.proofs.Edges.{edge_more, edges_inserted}
use Rattle.tableau_nba.proofs.Growing.{cover_read, edges_all, edges_step, err_many, grown_all, grown_step, many_grown}
use Rattle.tableau_nba.proofs.walks.edges.Goals as goal

pub loop-cover-preserved : goal.loop-cover-preserved
loop-cover-preserved c =
    let signals = c.args.signals in
    let untils = c.args.untils.now in
    let level = c.args.level in
    let list = covers_of c.args.list.now in
    let i = c.loop-cover.cover-index in
    let n = index_set_len c.edge.new.places in
    let x = sets_of c.cover-item.result in
    let read = cover_read c.args.list.now i c.cover-item.result (omega arith) c.cover-item.is in
    let l : i < length list = omega (arith, length-map c.args.list.now sets_of) in
    let old = map spot_of c.loop-cover.places.keys in
    let new = map spot_of c.edge.new.places.keys in
    let more = c.in_ok-edge.ensures.more in
    let put = c.in_ok-edge.ensures.places ∙ ap (λ y. insert_key same_spot old (target untils level y)) read in
    let kept = edge_more signals (index_set_len c.loop-cover.places) n c.loop-cover.edges.keys more c.loop-cover.invariant.2 in (
      omega (arith, more, c.loop-cover.invariant.0),
      c.in_ok-edge.ensures.few,
      subst (All (IsEdge signals n)) (sym c.in_ok-insert.ensures.keys)
          (edges_inserted eq-value.it signals n c.loop-cover.edges.keys c.in_ok-edge.edge kept c.in_ok-edge.ensures.edge),
      grown_step untils level list i x (map spot_of c.args.places.now.keys) old new l c.loop-cover.invariant.3 put,
      edges_step c.args.literals.now untils level list i x (map spot_of c.args.places.now.keys) old new c.loop-cover.edges.keys _ c.in_ok-edge.edge l c.loop-cover.invariant.3 put
          c.loop-cover.invariant.4 (c.in_ok-edge.ensures.value ∙ ap (edge_in c.args.literals.now untils new level) read) c.in_ok-insert.ensures.keys,
    )

pub returns-in_err-edge-clause-many : goal.returns-in_err-edge-clause-many
returns-in_err-edge-clause-many c =
    let untils = c.args.untils.now in
    let level = c.args.level in
    let list = covers_of c.args.list.now in
    let i = c.loop-cover.cover-index in
    let read = cover_read c.args.list.now i c.cover-item.result (omega arith) c.cover-item.is in
    let old = map spot_of c.loop-cover.places.keys in
    let l : i < length list = omega (arith, length-map c.args.list.now sets_of) in
    err_many c.from_residual.result c.in_err-edge.field-0.0 _ c.from_residual.ensures.1
    (λ e. many_grown untils level list i (sets_of c.cover-item.result) (map spot_of c.args.places.now.keys) old l c.loop-cover.invariant.3
    (subst (λ y. 4096 < length (insert_key same_spot old (target untils level y))) read (c.in_err-edge.ensures.many e)))

pub returns-clause-places : goal.returns-clause-places
returns-clause-places c =
    let end : length (covers_of c.args.list.now) ≤ c.loop-cover.cover-index = omega (arith, length-map c.args.list.now sets_of) in
    grown_all c.args.untils.now c.args.level (covers_of c.args.list.now) c.loop-cover.cover-index _ _ end c.loop-cover.invariant.3

pub returns-clause-value : goal.returns-clause-value
returns-clause-value c =
    let end : length (covers_of c.args.list.now) ≤ c.loop-cover.cover-index = omega (arith, length-map c.args.list.now sets_of) in
    c.in_ok-from_slice.ensures.items ∙ c.as_slice.ensures.keys ∙ edges_all c.args.literals.now c.args.untils.now c.args.level (covers_of c.args.list.now) c.loop-cover.cover-index _ _ end c.loop-cover.invariant.4
