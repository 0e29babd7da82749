use Rattle.std.proofs.Common.{arith, ◌∙◌, ap, ◌≡◌}
use Rattle.game_form.specs.Game.{action_at, row_at, lanes}
use Rattle.std.proofs.Common.{replicate}
use Rattle.std.specs.Prelude.{negsuc}
use Rattle.std.proofs.lemmas.List.{length-replicate}
use Rattle.game_form.specs.Vector.{allowed, bound}
use Rattle.counter_vec.proofs.Vectors.{lowered, lowered_low}
use Rattle.counter_vec.proofs.counters.Counters.pre.Goals as goal

pub invariant_of-result : goal.invariant_of-result
invariant_of-result c =
    let size : c.in_ok-lanes.lanes.len ≡ lanes c.args.g.now = c.in_ok-lanes.ensures.len ∙ c.lanes.ensures in
    lowered_low (bound c.args.g.now) (action_at c.args.g.now c.args.action) c.lower_all.new.out c.in_ok-lanes.lanes.items c.deref.result.now c.in_ok-lanes.lanes.len
    (omega arith) c.lower_all.ensures

pub returns : goal.returns
returns c =
    let g = c.args.g.now in
    let f_is : c.deref.result.now ≡ c.args.self.now = c.deref.ensures.value ∙ c.self.view_is in
    let items : c.in_ok-lanes.lanes.items ≡ replicate (lanes g) (negsuc 0) = c.in_ok-lanes.ensures.items_if_clones_equal (λ y h. h) ∙ ap (λ m. replicate m (negsuc 0)) c.lanes.ensures in
    let len = length-replicate (lanes g) (negsuc 0) in
    let size : c.in_ok-lanes.lanes.len ≡ lanes g = c.in_ok-lanes.ensures.len ∙ c.lanes.ensures in
    let height = (c.known.ensures.actions c.args.action c.requires.action).height in
    lowered (λ row. allowed (bound g) row 0 c.args.self.now) (action_at g c.args.action) c.lower_all.new.out c.in_ok-lanes.lanes.items c.in_ok-lanes.lanes.len
    (omega arith) (omega arith)
    (λ q lt. c.lower_all.ensures q lt ∙ ap (λ v. allowed (bound g) (row_at (action_at g c.args.action) q) 0 v) f_is)
