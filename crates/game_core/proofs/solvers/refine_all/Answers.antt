use Rattle.std.proofs.Common.{slice_index_or, ap, sym, subst, ◌≡◌, ◌∙◌, true, List}
use Rattle.std.specs.Prelude.{ℤ}
use Rattle.std.specs.List.{All}
use Rattle.cpre_step.specs.Refinement.{answers}
use Rattle.game_core.specs.Remains.{AreRemains}
use Rattle.game_core.proofs.Greatest.{covers_kept, lost_seen, settled_seen}
use Rattle.game_core.proofs.solvers.refine_all.Goals as goal

pub exchange-requires-clause-pieces : goal.exchange-requires-clause-pieces
exchange-requires-clause-pieces c = λ f e.
    let h = rw c.in-Some.is at c.in_ok-found.ensures.found in
    subst (λ (vs : List (List ℤ)). AreRemains c.args.g.now vs f c.in-Some.found.pieces.items) c.deref.ensures.value
    (h.1 f (e ∙ ap (λ vs. slice_index_or vs c.in-Some.found.place f) (sym c.deref.ensures.value)))

pub refining-preserved : goal.refining-preserved
refining-preserved c = (
  c.in_ok-exchange.ensures.entries,
  c.in_ok-exchange.ensures.columns,
  covers_kept c.args.g.now c.known.ensures c.refining.entries.vectors.items c.exchange.new.entries.vectors.items c.refining.invariant.2 c.in_ok-exchange.ensures.keeps,
  c.in_ok-found.ensures.turns,
)

pub returns-then-is_lost-clause-lost : goal.returns-then-is_lost-clause-lost
returns-then-is_lost-clause-lost c = λ _.
    let vs : List (List ℤ) = c.exchange.new.entries.vectors.items in
    lost_seen c.args.g.now c.args.whole vs c.deref-in-Some.result.now c.in_ok-initial.initial
    (covers_kept c.args.g.now c.known.ensures c.refining.entries.vectors.items vs c.refining.invariant.2 c.in_ok-exchange.ensures.keeps)
    (c.is_lost.ensures.asked c.if-is_lost.true) c.deref-in-Some.ensures.value c.in_ok-initial.ensures (c.is_lost.ensures.missed c.if-is_lost.true)

pub returns-clause-lost : goal.returns-clause-lost
returns-clause-lost c = λ h.
    lost_seen c.args.g.now c.args.whole c.refining.entries.vectors.items c.deref-2.result.now c.in_ok-initial.initial c.refining.invariant.2
    (c.is_lost-2.ensures.asked h) c.deref-2.ensures.value c.in_ok-initial.ensures (c.is_lost-2.ensures.missed h)

pub returns-clause-settled : goal.returns-clause-settled
returns-clause-settled c = λ h.
    let g = c.args.g.now in
    settled_seen g c.args.whole c.refining.entries.vectors.items c.deref-2.result.now c.in_ok-initial.initial c.known.ensures c.refining.invariant.0.apart c.refining.invariant.0.vectors
    (subst (λ (vs : List (List ℤ)). All (λ f. answers g vs f ≡ true) vs) c.deref.ensures.value (rw c.in_default.is at c.in_ok-found.ensures.closed))
    c.refining.invariant.2 c.deref-2.ensures.value c.in_ok-initial.ensures (c.is_lost-2.ensures.covered h)

pub returns-then-is_lost-clause-left : goal.returns-then-is_lost-clause-left
returns-then-is_lost-clause-left c = record {
  vectors = c.in_ok-exchange.ensures.entries.vectors;
  apart = c.in_ok-exchange.ensures.entries.apart;
  covers = covers_kept c.args.g.now c.known.ensures c.refining.entries.vectors.items c.exchange.new.entries.vectors.items c.refining.invariant.2 c.in_ok-exchange.ensures.keeps;
}

pub returns-clause-left : goal.returns-clause-left
returns-clause-left c = record {
  vectors = c.refining.invariant.0.vectors;
  apart = c.refining.invariant.0.apart;
  covers = c.refining.invariant.2;
}
