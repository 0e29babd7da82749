use Rattle.std.proofs.Common.{arith, rules, ◌∙◌, ap, ◌≡◌, List}
use mir.Val.{SFits, to_z, of_z}
use mir.Syntax.{w16}
use Rattle.std.specs.Prelude.{ℤ}
use Rattle.std.specs.Int.{int_max}
use Rattle.std.proofs.lemmas.Int.{to_z-of_z}
use Rattle.game_form.specs.Vector.{lane, bound, size_of, brought, number}
use Rattle.game_form.specs.Game.{action_at, row_at}
use Rattle.counter_vec.proofs.Along.{lanes_more, lanes_end, drop_all}
use Rattle.counter_vec.proofs.flows.raise_all.Goals as goal

pub loop-q-preserved : goal.loop-q-preserved
loop-q-preserved c =
    let out : List ℤ = c.loop-q.out in
    let rows = action_at c.args.g.now c.args.action in
    let row_is : c.deref.result.now ≡ row_at rows c.loop-q.q = c.deref.ensures.value ∙ c.row.view_is ∙ c.row-row.ensures.value in
    let fk : SFits w16 c.k-k.result = search rules in
    let fv : SFits w16 (lane c.args.f.now c.loop-q.q) = search rules in
    let k_is : size_of (to_z w16 (of_z w16 c.k-k.result)) ≡ bound c.args.g.now = ap size_of (to_z-of_z w16 _ fk ∙ c.k-k.ensures.bound) in
    let height = (c.known.ensures.actions c.args.action c.requires.action).height in
    let same = c.requires.vector.same_length in (
      c.raise_from.ensures.low,
      lanes_more (bound c.args.g.now) c.args.out.now out c.raise_from.new.out rows c.args.f.now c.loop-q.q (omega arith) (omega arith)
          c.loop-q.invariant.1 (omega arith)
          (λ p lt. c.raise_from.ensures.lanes p lt
          ∙ ap (λ k. int_max (lane out p) (brought k (to_z w16 (of_z w16 (lane c.args.f.now c.loop-q.q))) (number c.deref.result.now p))) k_is
          ∙ ap (λ v. int_max (lane out p) (brought (bound c.args.g.now) v (number c.deref.result.now p))) (to_z-of_z w16 _ fv)
          ∙ ap (λ r. int_max (lane out p) (brought (bound c.args.g.now) (lane c.args.f.now c.loop-q.q) (number r p))) row_is),
    )

pub returns-clause-lanes : goal.returns-clause-lanes
returns-clause-lanes c =
    lanes_end (bound c.args.g.now) c.args.out.now c.loop-q.out (action_at c.args.g.now c.args.action) _ c.args.f.now _
    (drop_all c.args.f.now c.loop-q.q (omega arith)) c.loop-q.invariant.0 c.loop-q.invariant.1
