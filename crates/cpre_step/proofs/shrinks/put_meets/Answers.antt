use Rattle.std.proofs.Common.{◌≡◌, ◌∙◌, sym, ap, arith, subst, get_or, length, List, ◌||◌, ◌&&◌, ◌+◌, drop}
use Rattle.std.specs.Prelude.{ℤ}
use Rattle.game_form.specs.Vector.{IsVector}
use Rattle.antichain_list.specs.Antichain.{added}
use Rattle.counter_vec.specs.Counters.{at_or_below, lexicographic, met}
use Rattle.cpre_step.specs.Refinement.{AreVectors}
use Rattle.cpre_step.proofs.Left.{C, all_at, vector-met, vectors-put, meets_more}
use Rattle.cpre_step.proofs.shrinks.put_meets.Goals as goal

pub loop-v-preserved : goal.loop-v-preserved
loop-v-preserved c =
    let from : List (List ℤ) = c.args.from.now in
    let most : List ℤ = c.args.most.now in
    let x : List ℤ = c.v-item.result in
    let is : x ≡ get_or from c.loop-v.v-index x = c.v-item.is ∙ ap (λ list. get_or list c.loop-v.v-index x) c.entries-v-items.ensures.value in
    let lt = c.loop-v-test.true in
    let in_from = ap length c.entries-v-items.ensures.value in
    let vector_x : IsVector c.args.g.now x = all_at (IsVector c.args.g.now) from c.loop-v.v-index x (omega arith) is c.requires.vectors in
    let lx = vector_x.same_length in
    let lm = c.requires.most.same_length in
    let e : c.put.new.left ≡ added at_or_below lexicographic (met x most) c.loop-v.left = c.in_ok-put.ensures ∙ ap (λ v. added at_or_below lexicographic v c.loop-v.left) c.in_ok-meet.ensures in
    subst (λ list. AreVectors c.args.g.now list × ((u : List ℤ) → (C u list || (C u (drop (c.loop-v.v-index + 1) from) && at_or_below u most)) ≡ (C u c.args.left.now || (C u from && at_or_below u most)))) (sym e) (
      vectors-put c.args.g.now (met x most) c.loop-v.left (vector-met c.args.g.now x most vector_x c.requires.most) c.loop-v.invariant.0,
      meets_more c.args.left.now c.loop-v.left from most x c.loop-v.v-index (omega arith) is (omega arith) c.loop-v.invariant.1,
    )
