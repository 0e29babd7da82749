use Rattle.std.proofs.Common.{◌∙◌, ap, replicate, ◌≡◌, rules}
use mir.Val.{to_z, of_z, SFits}
use mir.Syntax.{w16}
use Rattle.std.proofs.lemmas.Int.{to_z-of_z}
use Rattle.game_form.specs.Vector.{top}
use Rattle.counter_vec.proofs.Vectors.{vector_same}
use Rattle.counter_vec.proofs.counters.Counters.top.Goals as goal

pub returns : goal.returns
returns c =
    let f : SFits w16 c.k.result = search rules in
    let e : to_z w16 (of_z w16 c.k.result) ≡ c.args.g.now.k = to_z-of_z w16 _ f ∙ c.k.ensures.bound in
    c.in_ok-lanes.ensures.items_if_clones_equal (λ y h. h) ∙ ap (λ n. replicate n (to_z w16 (of_z w16 c.k.result))) c.lanes.ensures
    ∙ vector_same _ _ ∙ ap (λ k. top (record c.args.g.now { k = k })) e
