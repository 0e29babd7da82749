use Rattle.std.proofs.Common.{◌∙◌, ap, sym, arith, length, ◌≡◌, List, ℤ, rules}
use Rattle.std.specs.Prelude.{◌+ℤ◌}
use mir.Val.{SFits, to_z, of_z}
use mir.Syntax.{w16}
use Rattle.std.proofs.lemmas.Int.{to_z-of_z}
use Rattle.game_form.specs.Vector.{lane}
use Rattle.counter_vec.proofs.Vectors.{lifted_of, whole}
use Rattle.counter_vec.proofs.counters.Counters.lift.Goals as goal

pub returns : goal.returns
returns c =
    let fits : SFits w16 c.args.by = search rules in
    let by : to_z w16 (of_z w16 c.args.by) ≡ c.args.by = to_z-of_z w16 _ fits in
    let v_is : c.deref.result.now ≡ c.args.self.now = c.deref.ensures.value ∙ c.self.view_is in
    let size : c.in_ok-lanes.lanes.len ≡ length c.args.self.now = c.in_ok-lanes.ensures.len ∙ c.len.ensures ∙ sym c.deref.ensures.len ∙ ap length v_is in
    let len : length c.lift_into.new.out ≡ length c.args.self.now = omega (arith, c.deref_mut.ensures.len, c.in_ok-lanes.ensures.len, ap length v_is) in
    whole c.in_ok-lanes.lanes.len c.lift_into.new.out c.in_ok-lanes.lanes.items (omega arith)
    ∙ lifted_of c.args.by c.args.self.now c.lift_into.new.out len
    (λ p lt. c.lift_into.ensures p lt ∙ ap (λ (z : ℤ). lane c.deref.result.now p +ℤ z) by ∙ ap (λ (v : List ℤ). lane v p +ℤ c.args.by) v_is)
