use Rattle.std.proofs.Common.{◌≡◌, ◌∙◌, sym, ap, arith, subst, get_or, length, List, ◌||◌, ◌+◌, drop}
use Rattle.std.specs.Prelude.{ℤ}
use Rattle.game_form.specs.Vector.{IsVector}
use Rattle.antichain_list.specs.Antichain.{added}
use Rattle.counter_vec.specs.Counters.{at_or_below, lexicographic}
use Rattle.cpre_step.specs.Refinement.{AreVectors}
use Rattle.cpre_step.proofs.Left.{C, all_at, vectors-put, puts_more}
use Rattle.cpre_step.proofs.shrinks.put_all.Goals as goal

pub loop-v-preserved : goal.loop-v-preserved
loop-v-preserved c =
    let part : List (List ℤ) = c.args.part.now in
    let x : List ℤ = c.v-item.result in
    let is : x ≡ get_or part c.loop-v.v-index x = c.v-item.is ∙ ap (λ list. get_or list c.loop-v.v-index x) c.entries-v-items.ensures.value in
    let lt = c.loop-v-test.true in
    let in_part = ap length c.entries-v-items.ensures.value in
    let vector_x : IsVector c.args.g.now x = all_at (IsVector c.args.g.now) part c.loop-v.v-index x (omega arith) is c.requires.part in
    let e : c.put.new.left ≡ added at_or_below lexicographic x c.loop-v.left = c.in_ok-put.ensures ∙ ap (λ v. added at_or_below lexicographic v c.loop-v.left) c.in_ok-copy.ensures in
    subst (λ list. AreVectors c.args.g.now list × ((u : List ℤ) → (C u list || C u (drop (c.loop-v.v-index + 1) part)) ≡ (C u c.args.left.now || C u part))) (sym e) (
      vectors-put c.args.g.now x c.loop-v.left vector_x c.loop-v.invariant.0,
      puts_more c.args.left.now c.loop-v.left part x c.loop-v.v-index (omega arith) is c.loop-v.invariant.1,
    )
