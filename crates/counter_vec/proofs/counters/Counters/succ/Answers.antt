use Rattle.std.proofs.Common.{arith, ◌∙◌, ap, ◌≡◌, length}
use Rattle.game_form.specs.Game.{action_at, lanes}
use Rattle.std.proofs.Common.{replicate}
use Rattle.std.specs.Prelude.{negsuc}
use Rattle.std.specs.Int.{int_max}
use Rattle.std.proofs.lemmas.List.{length-replicate}
use Rattle.game_form.specs.Vector.{arrived, bound, lane}
use Rattle.counter_vec.proofs.Vectors.{raised_from_nothing, arrived_low}
use Rattle.counter_vec.proofs.counters.Counters.succ.Goals as goal

pub returns : goal.returns
returns c =
    let g = c.args.g.now in
    let f_is : c.deref.result.now ≡ c.args.self.now = c.deref.ensures.value ∙ c.self.view_is in
    let items : c.in_ok-lanes.lanes.items ≡ replicate (lanes g) (negsuc 0) = c.in_ok-lanes.ensures.items_if_clones_equal (λ y h. h) ∙ ap (λ m. replicate m (negsuc 0)) c.lanes.ensures in
    let len = length-replicate (lanes g) (negsuc 0) in
    let size : c.in_ok-lanes.lanes.len ≡ lanes g = c.in_ok-lanes.ensures.len ∙ c.lanes.ensures in
    let new_len : length c.raise_all.new.out ≡ lanes g = omega arith in
    raised_from_nothing (arrived (bound g) (action_at g c.args.action) c.args.self.now) c.raise_all.new.out c.in_ok-lanes.lanes.items c.in_ok-lanes.lanes.len (lanes g)
    size new_len items (arrived_low (bound g) (action_at g c.args.action) c.args.self.now)
    (λ p lt. c.raise_all.ensures.lanes p lt
    ∙ ap (λ v. int_max (lane v p) (arrived (bound g) (action_at g c.args.action) c.deref.result.now p)) c.deref_mut.ensures.value
    ∙ ap (λ f. int_max (lane c.in_ok-lanes.lanes.items p) (arrived (bound g) (action_at g c.args.action) f p)) f_is)
