use Rattle.std.proofs.Common.{◌∙◌, ap, replicate, ◌≡◌, ◌<◌, sym, Some, ℕ}
use Rattle.std.specs.Prelude.{slice_set, pos, negsuc, ℤ, List}
use Rattle.game_form.specs.Game.{lanes}
use Rattle.game_form.specs.Vector.{vector, begins}
use Rattle.counter_vec.proofs.Vectors.{begins_none, begins_some}
use Rattle.counter_vec.proofs.counters.Counters.initial.Goals as goal
use Rattle.counter_vec.proofs.counters.Counters.initial.Goals.{in-Some, in_default}

pub returns : goal.returns
returns c =
    let n : ℕ = lanes c.args.g.now in
    let items : c.in_ok-lanes.lanes.items ≡ replicate n (negsuc 0) = c.in_ok-lanes.ensures.items_if_clones_equal (λ y h. h) ∙ ap (λ m. replicate m (negsuc 0)) c.lanes.ensures in
    elim c.match-init.branch [
      | in-Some w ↦
          (let is : Some w.in-Some.first ≡ c.args.g.now.init = sym w.in-Some.is ∙ c.init.ensures in
          let lt : w.in-Some.first < n = c.known.ensures.init w.in-Some.first (sym is) in
          ap (λ v. v.items) w.lanes-is ∙ ap (λ (xs : List ℤ). slice_set xs w.in-Some.first (pos 0)) items ∙ begins_some n w.in-Some.first lt ∙ ap (λ i. vector n (begins i)) is)
      | in_default w ↦ ap (λ v. v.items) w.lanes-is ∙ items ∙ begins_none n ∙ ap (λ i. vector n (begins i)) (sym w.in_default.is ∙ c.init.ensures)
    ]
