use Rattle.std.proofs.Common.{◌≡◌, ◌∙◌, ◌||◌, ◌&&◌, ap, arith, false, ℕ, List, sym, subst}
use Rattle.std.specs.Prelude.{ℤ}
use Rattle.counter_vec.specs.Counters.{at_or_below}
use Rattle.counter_vec.specs.Orders.{below-refl}
use Rattle.game_core.specs.Flat.{over_at, picked}
use Rattle.game_core.specs.Front.{under}
use Rattle.game_core.proofs.Flats.{picked_all, picked_low, picked_within}
use Rattle.game_core.proofs.Unders.{meets_more, meets_none}
use Rattle.game_core.proofs.Pieces.{first_strict}
use Rattle.game_core.proofs.refinements.add_first.Goals as goal

pub add_meet-requires-clause-under : goal.add_meet-requires-clause-under
add_meet-requires-clause-under c = below-refl c.args.f.now

pub add_meet-requires-clause-strict : goal.add_meet-requires-clause-strict
add_meet-requires-clause-strict c =
    let P : List ℤ → Type 0 = λ z. at_or_below c.args.f.now z ≡ false in
    let place : ℕ = over_at c.args.places.now c.loop-j.j in
    first_strict c.args.f.now c.low.result.now
    (subst P (sym c.low.ensures) (c.requires.strict place c.low.result.now (c.requires.places c.loop-j.j 0 c.loop-j-test.true)))

pub loop-j-init : goal.loop-j-init
loop-j-init c = (c.requires.kept, c.requires.apart, λ u. meets_none u c.args.f.now c.args.kept.now.items)

pub loop-j-preserved : goal.loop-j-preserved
loop-j-preserved c = (
  c.in_ok-add_meet.ensures.kept,
  c.in_ok-add_meet.ensures.apart,
  λ u.
      meets_more u c.args.f.now c.low.result.now c.args.kept.now.items c.loop-j.kept.items c.add_meet.new.kept.items (picked c.args.column.now.items c.args.places.now) c.loop-j.j
      (picked_within c.args.column.now.items c.args.places.now c.loop-j.j c.loop-j-test.true)
      (picked_low c.args.column.now.items c.args.places.now c.loop-j.j c.low.result.now c.loop-j-test.true (c.requires.places c.loop-j.j 0 c.loop-j-test.true) c.low.ensures)
      (c.loop-j.invariant.2 u) (c.in_ok-add_meet.ensures.under u),
)

pub returns-clause-under : goal.returns-clause-under
returns-clause-under c = λ u.
    c.loop-j.invariant.2 u
    ∙ ap (λ (xs : List (List ℤ)). under c.args.kept.now.items u || (at_or_below u c.args.f.now && under xs u)) (picked_all c.args.column.now.items c.args.places.now c.loop-j.j (omega arith))
