use Rattle.std.proofs.Common.{Some, map, arith, ap, refl, rules, sym, ◌∙◌}
use Rattle.cover_sets.specs.Union.{covers_of}
use Rattle.tableau_nba.specs.Walks.{spot_of, walker_of}
use Rattle.tableau_nba.proofs.Edges.{visited_more}
use Rattle.tableau_nba.proofs.Growing.{err_many}
use Rattle.tableau_nba.proofs.Visits.{cover_told, first_keys, no_spot, some_spot, walk_many, walk_wide, walking_found, walking_full, spots_few, walking_begins, walking_more}
use Rattle.tableau_nba.proofs.walks.states_from.Goals as goal
use Rattle.tableau_nba.proofs.walks.states_from.Goals.{else-loop-at-test, then-loop-at-test+in_default}

pub loop-at-init : goal.loop-at-init
loop-at-init c = (
  search rules,
  search rules,
  walking_begins _ c.args.root _ _ (first_keys c.new-places.result.keys c.insert.new.self.keys _ c.args.root (search rules) c.in_ok-insert.ensures.keys c.with.ensures refl) c.new-states.ensures.items,
)

pub loop-at-preserved : goal.loop-at-preserved
loop-at-preserved c =
    let walker = walker_of c.args.table.now c.args.literals.now c.args.untils.now c.args.signals in
    let new = map spot_of c.edges.new.places.keys in (
      visited_more c.args.signals _ _ c.loop-at.at c.loop-at.states.items c.in_ok-edges.edges.items c.push.new.self.items c.loop-at.invariant.0 (c.in-Some.ensures.found.0 refl)
          c.in_ok-edges.ensures.more c.in_ok-edges.ensures.few c.in_ok-edges.ensures.edges c.in_ok-push.ensures.items,
      c.in_ok-list.ensures.covers,
      walking_more walker c.args.root c.loop-at.at (map spot_of c.loop-at.places.keys) c.loop-at.states.items c.loop-at.invariant.2 (spot_of c.in-Some.place.now)
          (some_spot c.loop-at.places.keys c.loop-at.at c.in-Some.place.now c.in-Some.ensures.key) (omega arith) (covers_of c.at.result.now) new c.in_ok-edges.edges.items c.push.new.self.items
          (c.in_ok-list.ensures.value ∙ ap (λ xs. Some (covers_of xs)) (sym c.at.ensures)) c.in_ok-edges.ensures.places (spots_few c.edges.new.places.keys c.in_ok-edges.ensures.few) c.in_ok-edges.ensures.value c.in_ok-push.ensures.items,
    )

pub returns-in_err-list-clause-wide : goal.returns-in_err-list-clause-wide
returns-in_err-list-clause-wide c =
    cover_told c.from_residual-in_err-list.result c.in_err-list.field-0.0 _ c.from_residual-in_err-list.ensures.1
    (λ e. walk_wide (walker_of c.args.table.now c.args.literals.now c.args.untils.now c.args.signals) c.args.root c.loop-at.at (map spot_of c.loop-at.places.keys) c.loop-at.states.items c.loop-at.invariant.2
    (spot_of c.in-Some.place.now) (some_spot c.loop-at.places.keys c.loop-at.at c.in-Some.place.now c.in-Some.ensures.key) (omega arith) (c.in_err-list.ensures.wide e))

pub returns-in_err-edges-clause-many : goal.returns-in_err-edges-clause-many
returns-in_err-edges-clause-many c =
    err_many c.from_residual-in_err-edges.result c.in_err-edges.field-0.0 _ c.from_residual-in_err-edges.ensures.1
    (λ e. walk_many (walker_of c.args.table.now c.args.literals.now c.args.untils.now c.args.signals) c.args.root c.loop-at.at (map spot_of c.loop-at.places.keys) c.loop-at.states.items c.loop-at.invariant.2
    (spot_of c.in-Some.place.now) (some_spot c.loop-at.places.keys c.loop-at.at c.in-Some.place.now c.in-Some.ensures.key) (omega arith) (covers_of c.at.result.now)
    (c.in_ok-list.ensures.value ∙ ap (λ xs. Some (covers_of xs)) (sym c.at.ensures)) (c.in_err-edges.ensures.many e))

pub returns-clause-value : goal.returns-clause-value
returns-clause-value c =
    let walker = walker_of c.args.table.now c.args.literals.now c.args.untils.now c.args.signals in
    let spots = map spot_of c.loop-at.places.keys in
    elim c.loop-at-test.branch [
      | else-loop-at-test w ↦ let r = walking_full walker c.args.root c.loop-at.at spots c.loop-at.states.items c.loop-at.invariant.2 (omega (arith, w.loop-at-test.false)) (spots_few c.loop-at.places.keys (omega (arith, c.loop-at.invariant.0.few))) in (spots, r.0, r.1)
      | then-loop-at-test+in_default w ↦
          let r = walking_found walker c.args.root c.loop-at.at spots c.loop-at.states.items c.loop-at.invariant.2 (no_spot c.loop-at.places.keys c.loop-at.at w.in_default.ensures.key) in (spots, r.0, r.1)
    ]
