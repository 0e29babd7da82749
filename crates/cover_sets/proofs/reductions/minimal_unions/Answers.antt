use Rattle.std.proofs.Common.{length, map, arith, ap, subst, sym, ◌∙◌}
use Rattle.cover_sets.specs.Bits.{signature_of, sets_of}
use Rattle.cover_sets.specs.Union.{AreUnions, covers_of, kept_from, union_at}
use Rattle.cover_sets.proofs.Unions.{all_kept, err_told, offer_wide, product_found, product_wide, union_kept}
use Rattle.cover_sets.proofs.reductions.minimal_unions.Goals as goal

pub loop-union-init : goal.loop-union-init
loop-union-init c = (
  omega (arith, ap length c.in_ok-with_capacity.ensures.items),
  c.in_ok-with_capacity-2.ensures.items ∙ ap (map signature_of) (sym c.in_ok-with_capacity.ensures.items),
  ap (λ covers. kept_from (covers_of covers) (map (union_at (covers_of c.args.xs.now) (covers_of c.args.ys.now)) c.deref-union-items.result.now)) c.in_ok-with_capacity.ensures.items,
)

pub loop-union-preserved : goal.loop-union-preserved
loop-union-preserved c =
    let xs = c.args.xs.now in
    let ys = c.args.ys.now in
    let us = c.deref-union-items.result.now in
    let i = c.loop-union.union-index in (
      c.in_ok-offer.ensures.few,
      c.in_ok-offer.ensures.signed,
      union_kept xs ys us c.loop-union.kept.covers.items c.offer.new.self.covers.items i _ c.index-xs-union.result c.index-ys-union.result (sets_of c.join-cover.result) _ (omega arith)
          (subst (AreUnions (length xs) (length ys)) (sym c.deref-union-items.ensures.value) c.in_ok-unions.ensures.places) c.loop-union.invariant.2 c.index-xs-union.is c.index-ys-union.is
          c.join-cover.ensures c.in_ok-offer.ensures.kept,
    )

pub returns-in_err-offer-clause-wide : goal.returns-in_err-offer-clause-wide
returns-in_err-offer-clause-wide c =
    let xs = c.args.xs.now in
    let ys = c.args.ys.now in
    let us = c.deref-union-items.result.now in
    let places = subst (AreUnions (length xs) (length ys)) (sym c.deref-union-items.ensures.value) c.in_ok-unions.ensures.places in
    err_told c.from_residual-in_err-offer.result c.in_err-offer.field-0.0 _ c.from_residual-in_err-offer.ensures.1
    (λ e. product_wide c.args.opposites.now xs ys _ c.in_ok-unions.ensures.all c.in_ok-unions.ensures.order
    (offer_wide xs ys us c.in_ok-unions.unions.items c.loop-union.kept.covers.items c.loop-union.union-index c.index-xs-union.result c.index-ys-union.result (sets_of c.join-cover.result) _ (omega arith)
    places c.loop-union.invariant.2 c.index-xs-union.is c.index-ys-union.is c.join-cover.ensures c.deref-union-items.ensures.value (c.in_err-offer.ensures.wide e)))

pub returns : goal.returns
returns c =
    let found = product_found c.args.opposites.now c.args.xs.now c.args.ys.now _ c.in_ok-unions.ensures.all c.in_ok-unions.ensures.order c.loop-union.kept.covers.items
    (all_kept c.args.xs.now c.args.ys.now c.deref-union-items.result.now c.in_ok-unions.unions.items c.loop-union.kept.covers.items c.loop-union.union-index (omega arith) c.loop-union.invariant.2 c.deref-union-items.ensures.value)
    c.loop-union.invariant.0 in
    record { value = found.0; different = found.1; wide = _; narrow = c.loop-union.invariant.0; consistent = found.2 }
