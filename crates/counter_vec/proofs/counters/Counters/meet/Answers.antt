use Rattle.std.proofs.Common.{◌∙◌, ap, sym, arith, length, ◌≡◌, List}
use Rattle.std.specs.Prelude.{ℤ}
use Rattle.std.specs.Int.{int_min}
use Rattle.game_form.specs.Vector.{lane}
use Rattle.counter_vec.proofs.Vectors.{met_of, whole}
use Rattle.counter_vec.proofs.counters.Counters.meet.Goals as goal

pub returns : goal.returns
returns c =
    let u_is : c.deref.result.now ≡ c.args.self.now = c.deref.ensures.value ∙ c.self.view_is in
    let v_is : c.deref-2.result.now ≡ c.args.other.now = c.deref-2.ensures.value ∙ c.other.view_is in
    let size : c.in_ok-lanes.lanes.len ≡ length c.args.self.now = c.in_ok-lanes.ensures.len ∙ c.len.ensures ∙ sym c.deref.ensures.len ∙ ap length u_is in
    let len : length c.meet_into.new.out ≡ length c.args.self.now = omega (arith, c.deref_mut.ensures.len, c.in_ok-lanes.ensures.len, ap length u_is) in
    whole c.in_ok-lanes.lanes.len c.meet_into.new.out c.in_ok-lanes.lanes.items (omega arith)
    ∙ met_of c.args.self.now c.args.other.now c.meet_into.new.out len c.requires
    (λ p lt. c.meet_into.ensures p lt ∙ ap (λ (u : List ℤ). int_min (lane u p) (lane c.deref-2.result.now p)) u_is ∙ ap (λ (v : List ℤ). int_min (lane c.args.self.now p) (lane v p)) v_is)
