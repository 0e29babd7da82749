use Rattle.std.proofs.Common.{◌≡◌, ◌∙◌, ◌||◌, true, ap, sym, subst, List}
use Rattle.std.specs.Prelude.{ℤ}
use Rattle.counter_vec.specs.Counters.{at_or_below}
use Rattle.std.proofs.lemmas.Result.{on_ok_weaker}
use Rattle.cpre_step.proofs.Left.{below-met}
use Rattle.game_core.specs.Front.{Misses, under}
use Rattle.game_core.proofs.Orders.{met_left, met_right}
use Rattle.game_core.proofs.Pieces.{meet_piece}
use Rattle.game_core.proofs.Unders.{under_absorbs}
use Rattle.counter_vec.specs.Counters.{met}
use Rattle.game_core.proofs.refinements.add_meet.Goals as goal

pub add_missed-requires-clause-piece : goal.add_missed-requires-clause-piece
add_missed-requires-clause-piece c =
    let P : List ℤ → Type 0 = λ m. at_or_below m c.args.v.now ≡ true in
    let Q : List ℤ → Type 0 = λ m. at_or_below m c.args.p.now ≡ true in
    meet_piece c.args.f.now c.args.v.now c.args.p.now c.in_ok-meet.meet c.lanes.ensures.low c.requires.under
    (c.requires.strict c.in_ok-meet.meet)
    (subst P (sym c.in_ok-meet.ensures) (met_left c.args.v.now c.args.p.now c.requires.same))
    (subst Q (sym c.in_ok-meet.ensures) (met_right c.args.v.now c.args.p.now c.requires.same))

pub returns-clause-under : goal.returns-clause-under
returns-clause-under c =
    on_ok_weaker c.add_missed.result
    (λ h u. h u
    ∙ ap (λ (m : List ℤ). under c.args.kept.now.items u || at_or_below u m) c.in_ok-meet.ensures
    ∙ ap (λ b. under c.args.kept.now.items u || b) (below-met u c.args.v.now c.args.p.now c.requires.same))
    c.add_missed.ensures.under

pub returns-in-Some-clause-under : goal.returns-in-Some-clause-under
returns-in-Some-clause-under c =
    let kept : List (List ℤ) = c.args.kept.now.items in
    let hit : under kept (met c.args.v.now c.args.p.now) ≡ true = ap (λ (vs : List (List ℤ)). under vs (met c.args.v.now c.args.p.now)) (sym c.deref.ensures.value) ∙ c.in-Some.ensures.some in
    λ u. under_absorbs u (met c.args.v.now c.args.p.now) kept hit ∙ ap (λ b. under kept u || b) (below-met u c.args.v.now c.args.p.now c.requires.same)

pub add_missed-requires-clause-missed : goal.add_missed-requires-clause-missed
add_missed-requires-clause-missed c =
    let kept : List (List ℤ) = c.args.kept.now.items in
    let miss : Misses (met c.args.v.now c.args.p.now) kept = subst (Misses (met c.args.v.now c.args.p.now)) c.deref.ensures.value (rw c.in_default.is at c.find_met.ensures.none) in
    subst (λ (m : List ℤ). Misses m kept) (sym c.in_ok-meet.ensures) miss
